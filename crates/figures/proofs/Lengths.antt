-- The figure of `Lengths` is the length of the way home, and no way home is longer than the show.
use Rattle.std.proofs.Common.{◌≡◌, ℕ, zero, suc, ◌+◌, ◌<◌, ◌≤◌, List, [], ◌∷◌, length, Some, None, Option, refl, ap, ⊎_elim, arith}
use Rattle.std.proofs.lemmas.List.{get_or_past}
use Rattle.std.proofs.lemmas.Bool.{cases_lt}
use Rattle.tables.specs.Plan.{Plan, count}
use Rattle.figures.specs.Sound.{Sound}
use Rattle.figures.specs.Way.{main, from, onward, after, way_length, along, figure}
use Rattle.figures.proofs.Ways.{main-ahead, after-step}

length-along : (p : ℕ) (qs : List ℕ) → along (λ _. 1) (λ _ v. v + 1) p qs ≡ length (p ∷ qs)
length-along p [] = refl
length-along p (q ∷ qs) = omega (arith, length-along q qs)

pub length-figure : (t : Plan) (p : ℕ) → figure t (λ _. 1) (λ _ v. v + 1) p ≡ way_length t p
length-figure t p = length-along p (after t p)

from-few : (o : Option ℕ) (f : ℕ → List ℕ) (p n : ℕ) → p < n → ((q : ℕ) → o ≡ Some q → (p < q) × (q < n) × (length (f q) + q < n)) → length (from o f) + p < n
from-few None f p n lt few = omega arith
from-few (Some q) f p n lt few = let at = few q refl in omega (arith, at.0, at.2)

module _ (t : Plan) (sound : Sound t) where
  onward-few : (n p : ℕ) → p < count t → length (onward t n p) + p < count t
  onward-few zero p lt = omega arith
  onward-few (suc n) p lt = from-few (main t p) (onward t n) p (count t) lt (λ q e. let to = main-ahead t sound p q e in (to.0, to.1, onward-few n q to.1))

  -- from p there are at most as many positions as from p to the show's last
  pub length-few : (p : ℕ) → p < count t → way_length t p + p ≤ count t
  length-few p lt = omega (arith, onward-few (count t) p lt)

  -- a step home shortens the way by exactly one
  pub length-step : (p q : ℕ) → p < count t → main t p ≡ Some q → way_length t p ≡ way_length t q + 1
  length-step p q lt e = rw (after-step t sound p lt, e) (omega arith)

  pub length_last : (p : ℕ) → p < count t → main t p ≡ None → way_length t p ≡ 1
  length_last p lt e = rw (after-step t sound p lt, e)

  -- what is no position has nothing after it
  alone : (n p : ℕ) → count t ≤ p → length (onward t n p) ≡ 0
  alone zero p ge = refl
  alone (suc n) p ge = rw (get_or_past t.nexts p [] ge)

  pub length-past : (p : ℕ) → count t ≤ p → way_length t p ≡ 1
  length-past p ge = ap suc (alone (count t) p ge)

  pub length-any : (p : ℕ) → way_length t p ≤ 128
  length-any p = ⊎_elim
      (λ (lt : p < count t). omega (arith, length-few p lt, sound.few))
      (λ (ge : count t ≤ p). omega (arith, length-past p ge))
      (cases_lt p (count t))
