-- Placings, and what another number in a piece's place makes of them.
use Rattle.std.specs.Prelude.{◌≡◌, ℕ, zero, suc, ◌+◌, ◌<◌, ◌≤◌, List, [], ◌∷◌, length, replicate, ◌≢◌, slice_index, slice_index_or, slice_set, refl}
use Rattle.std.proofs.Common.{sym, ap, subst, ◌∙◌, ⊎_elim, arith, length-set}
use Rattle.std.proofs.lemmas.List.{get_or_past, get_or_default, get_or-set_same, get_or-set_other}
use Rattle.std.proofs.lemmas.List.Sums.{sum_by-cons, sum_by-set}
use Rattle.std.proofs.lemmas.Bool.{cases_eq, cases_lt, eq-eqb, ne_eqb}
use Rattle.tables.specs.Plan.{Plan, count}
use Rattle.figures.specs.Placing.{off, if_on}
use Rattle.rules.specs.Placing.{On, Formed, nobody, total}

-- a piece on is one of those that the list has
pub on_below : (w : List ℕ) (k : ℕ) → On w k → k < length w
on_below w k on = ⊎_elim (λ lt. lt) (λ ge. absurd (on (get_or_past w k off ge))) (cases_lt k (length w))

-- piece k's number, as code and definition read it
pub read_at : (w : List ℕ) (at k : ℕ) → at ≡ k → k < length w → slice_index w at ≡ slice_index_or w k off
read_at w at k e lt = ap (λ i. slice_index w i) e ∙ get_or_default w k 0 off lt

pub if-on : (f : ℕ → ℕ) (p : ℕ) → (p ≢ off) → if_on f p ≡ f p
if-on f p on = rw (ne_eqb p off on)

pub if-off : (f : ℕ → ℕ) (p : ℕ) → p ≡ off → if_on f p ≡ 0
if-off f p e = rw (eq-eqb p off e)

pub if-le : (f : ℕ → ℕ) (p : ℕ) → if_on f p ≤ f p
if-le f p = ⊎_elim (λ e. omega (arith, if-off f p e)) (λ on. omega (arith, if-on f p on)) (cases_eq p off)

pub off-all : (n k : ℕ) → ◌≡◌ {A = ℕ} (slice_index_or (replicate n off) k off) off
off-all zero k = refl
off-all (suc n) zero = refl
off-all (suc n) (suc k) = off-all n k

-- nobody is on in the empty placing
pub nobody-on : (k : ℕ) → On nobody k → ⊥
nobody-on k on = on (off-all 64 k)

total-all-off : (f : ℕ → ℕ) (n : ℕ) → total f (replicate n off) ≡ 0
total-all-off f zero = refl
total-all-off f (suc n) = sum_by-cons (if_on f) off (replicate n off) ∙ (omega (arith, total-all-off f n))

pub total-nobody : (f : ℕ → ℕ) → total f nobody ≡ 0
total-nobody f = total-all-off f 64

-- another number in a piece's place
pub total-set : (f : ℕ → ℕ) (w : List ℕ) (k p : ℕ) → k < length w → total f (slice_set w k p) + if_on f (slice_index_or w k off) ≡ total f w + if_on f p
total-set f w k p lt = sum_by-set (if_on f) w k p off lt

pub total-le : (f g : ℕ → ℕ) → ((p : ℕ) → f p ≤ g p) → (w : List ℕ) → total f w ≤ total g w
total-le f g le [] = omega arith
total-le f g le (p ∷ w) = omega (arith, sum_by-cons (if_on f) p w, sum_by-cons (if_on g) p w, one, total-le f g le w)
  where
    one : if_on f p ≤ if_on g p
    one = ⊎_elim (λ e. omega (arith, if-off f p e)) (λ on. omega (arith, if-on f p on, if-on g p on, le p)) (cases_eq p off)

-- what is on after a number was put in piece k's place
pub on-set : (w : List ℕ) (k p j : ℕ) (P : ℕ → Type 0) → k < length w → (j ≡ k → P p) → ((j ≢ k) → P (slice_index_or w j off)) → P (slice_index_or (slice_set w k p) j off)
on-set w k p j P lt mine others = ⊎_elim
    (λ same. rw same (subst P (sym (get_or-set_same w k p off lt)) (mine same)))
    (λ other. subst P (sym (get_or-set_other w k j p off other)) (others other))
    (cases_eq j k)

taken : (w : List ℕ) (k : ℕ) → slice_index_or (slice_set w k off) k off ≡ off
taken w k = ⊎_elim
    (λ (lt : k < length w). get_or-set_same w k off off lt)
    (λ (ge : length w ≤ k). get_or_past (slice_set w k off) k off (subst (λ n. n ≤ k) (sym (length-set w k off)) ge))
    (cases_lt k (length w))

-- whoever is on after k was taken off is another, and was on
pub still-on : (w : List ℕ) (k j : ℕ) → On (slice_set w k off) j → (j ≢ k) × On w j
still-on w k j on =
    let other : j ≡ k → ⊥ = λ e. on (subst (λ i. slice_index_or (slice_set w k off) i off ≡ off) (sym e) (taken w k)) in
    (other, λ e. on (get_or-set_other w k j off off other ∙ e))

module _ (t : Plan) where
  pub formed-nobody : Formed t nobody
  formed-nobody = (refl, λ k on. absurd (nobody-on k on))

  pub formed-set : (w : List ℕ) (k p : ℕ) → k < 64 → ((p ≢ off) → p < count t) → Formed t w → Formed t (slice_set w k p)
  formed-set w k p lt ok h = (
    length-set w k p ∙ h.0,
    λ j. on-set w k p j (λ q. (q ≢ off) → q < count t) (omega (arith, h.0)) (λ _. ok) (λ _. h.1 j),
  )

  pub formed-off : (w : List ℕ) (k : ℕ) → k < 64 → Formed t w → Formed t (slice_set w k off)
  formed-off w k lt h = formed-set w k off lt (λ on. absurd (on refl)) h
