-- The way home goes on from the main next.
use Rattle.std.proofs.Common.{◌≡◌, ℕ, zero, suc, ◌+◌, ◌-◌, ◌<◌, ◌≤◌, List, [], ◌∷◌, length, get_or, drop, set, Some, None, Option, refl, ap, ◌∙◌, ⊎_elim, arith}
use Rattle.std.proofs.lemmas.List.{get_or-set_same, get_or-set_other, drop-set-lt}
use Rattle.std.proofs.lemmas.Bool.{cases_eq}
use Rattle.tables.specs.Plan.{Plan, count, next}
use Rattle.figures.specs.Sound.{Sound}
use Rattle.figures.specs.Way.{head, main, from, onward, after, figure}

from-same : (o : Option ℕ) (f g : ℕ → List ℕ) → ((q : ℕ) → o ≡ Some q → f q ≡ g q) → from o f ≡ from o g
from-same None f g same = refl
from-same (Some q) f g same = ap (λ qs. q ∷ qs) (same q refl)

head-is : (qs : List ℕ) (q : ℕ) → head qs ≡ Some q → (0 < length qs) × (get_or qs 0 0 ≡ q)
head-is [] q e = absurd (grind (arith, e))
head-is (x ∷ qs) q e = (omega arith, grind (arith, e))

module _ (t : Plan) (sound : Sound t) where
  -- the main next lies ahead
  pub main-ahead : (p q : ℕ) → main t p ≡ Some q → (p < q) × (q < count t)
  main-ahead p q e =
      let is = head-is (next t p) q e in
      let ahead = sound.ahead p 0 is.0 in
      (omega (arith, is.1, ahead.0), omega (arith, is.1, ahead.1))

  -- enough steps are enough
  enough : (m n p : ℕ) → count t ≤ p + m → count t ≤ p + n → p < count t → onward t m p ≡ onward t n p
  enough zero n p a b h = absurd (omega arith)
  enough (suc m) zero p a b h = absurd (omega arith)
  enough (suc m) (suc n) p a b h =
      from-same (main t p) _ _ (λ q e. let to = main-ahead p q e in enough m n q (omega (arith, to.0)) (omega (arith, to.0)) to.1)

  pub after-step : (p : ℕ) → p < count t → after t p ≡ from (main t p) (after t)
  after-step p h = enough (count t) (suc (count t)) p (omega arith) (omega arith) h

  module _ {V : Type 0} (last : ℕ → V) (before : ℕ → V → V) where
    pub figure-last : (p : ℕ) → p < count t → main t p ≡ None → figure t last before p ≡ last p
    figure-last p h e = rw (after-step p h, e)

    pub figure-before : (p q : ℕ) → p < count t → main t p ≡ Some q → figure t last before p ≡ before p (figure t last before q)
    figure-before p q h e = rw (after-step p h, e)

-- the row has the figure of each position from p on, and behind those what it had before
pub record FilledFrom {V : Type 0} (t : Plan) (last : ℕ → V) (before : ℕ → V → V) (old : List V) (p : ℕ) (row : List V) : Type 0 where
  pub done : (k : ℕ) (d : V) → p ≤ k → k < count t → get_or row k d ≡ figure t last before k
  pub rest : drop (count t) row ≡ drop (count t) old

module _ {V : Type 0} (t : Plan) (last : ℕ → V) (before : ℕ → V → V) (old : List V) where
  pub filled_none : (p : ℕ) → p ≡ count t → FilledFrom t last before old p old
  filled_none p e = record { done = λ k d a b. absurd (omega arith); rest = refl }

  pub filled_more : (p : ℕ) (row : List V) (v : V) → 0 < p → p ≤ count t → count t ≤ length row → v ≡ figure t last before (p - 1) → FilledFrom t last before old p row → FilledFrom t last before old (p - 1) (set row (p - 1) v)
  filled_more p row v a b c e h = record {
    done = λ k d low high. ⊎_elim
        (λ same. rw same (get_or-set_same row (p - 1) v d (omega arith) ∙ e))
        (λ other. get_or-set_other row (p - 1) k v d other ∙ h.done k d (omega (arith, other)) high)
        (cases_eq k (p - 1));
    rest = drop-set-lt (count t) row (p - 1) v (omega arith) ∙ h.rest;
  }
