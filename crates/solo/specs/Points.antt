-- The points of the rule for one piece at a time.
use Rattle.std.specs.Prelude.{◌≡◌, ℕ, ◌+◌, ◌*◌, ◌<◌, ◌≤◌, List, [], ◌∷◌, Some, None, Option, ◌≢◌, slice_index_or, slice_set, refl}
use Rattle.std.proofs.Common.{ap, ⊎_elim, arith, mul-add, mul-le-mul_left}
use Rattle.std.proofs.lemmas.List.Sums.{sum_by-cons}
use Rattle.std.proofs.lemmas.Bool.{cases_eq}
use Rattle.tables.specs.Plan.{Plan, count, capacity, need}
use Rattle.figures.specs.Sound.{Sound}
use Rattle.figures.specs.Placing.{off, if_on, stepped}
use Rattle.rules.specs.Placing.{Fits, total, on_count, nobody}
use Rattle.rules.specs.Rule.{Names}
use Rattle.rules.specs.Placings.{on_below, if-on, if-off, if-le, total-nobody, total-set, formed-nobody, formed-set, formed-off}
use Rattle.rules.specs.Orders.{stepped-placed}
use Rattle.solo.specs.Solo.{Solo, SoloNames}

pub solo-empty : (t : Plan) → Solo t nobody
solo-empty t = (formed-nobody t, omega (arith, total-nobody (λ _. 1)))

-- a number in the place of piece k leaves at most one piece on, where no other was on
pub solo-set : (t : Plan) (w : List ℕ) (k p : ℕ) → Solo t w → k < 64 → on_count w ≤ if_on (λ _. 1) (slice_index_or w k off) → ((p ≢ off) → p < count t) → Solo t (slice_set w k p)
solo-set t w k p h lt others at = (
  formed-set t w k p lt at h.0,
  omega (arith, total-set (λ _. 1) w k p (omega (arith, h.0.0)), if-le (λ _. 1) p),
)

pub solo-alone : (t : Plan) (k p : ℕ) → k < 64 → p < count t → Solo t (slice_set nobody k p)
solo-alone t k p lt at = solo-set t nobody k p (solo-empty t) lt (omega (arith, total-nobody (λ _. 1))) (λ _. at)

pub solo-removal : (t : Plan) (w : List ℕ) (k : ℕ) → k < 64 → Solo t w → Solo t (slice_set w k off)
solo-removal t w k lt h = (formed-off t w k lt h.0, omega (arith, total-set (λ _. 1) w k off (omega (arith, h.0.0)), h.1, if-off (λ _. 1) off refl))

-- a figure that is at most c comes to at most c for each piece on
total-each : (f : ℕ → ℕ) (c : ℕ) → ((p : ℕ) → f p ≤ c) → (w : List ℕ) → total f w ≤ c * on_count w
total-each f c le [] = omega arith
total-each f c le (p ∷ w) =
    let rest = total-each f c le w in
    let here = sum_by-cons (if_on f) p w in
    let one = sum_by-cons (if_on (λ _. 1)) p w in
    ⊎_elim
    (λ e. let n : on_count (p ∷ w) ≡ on_count w = omega (arith, one, if-off (λ _. 1) p e) in omega (arith, here, if-off f p e, rest, ap (λ m. c * m) n))
    (λ on. let n : on_count (p ∷ w) ≡ on_count w + 1 = omega (arith, one, if-on (λ _. 1) p on) in omega (arith, here, if-on f p on, le p, rest, ap (λ m. c * m) n, mul-add c (on_count w) 1))
    (cases_eq p off)

module _ (t : Plan) (sound : Sound t) where
  pub solo-fits : (w : List ℕ) → Solo t w → Fits t w
  solo-fits w h r known =
      let all = total-each (λ p. need t p r) (capacity t r) (λ p. sound.room p r) w in
      omega (arith, all, mul-le-mul_left (capacity t r) h.1)

  pub solo-goes : (w : List ℕ) (r : Option ℕ) → SoloNames t w r → Names (Solo t) t w r
  solo-goes w None h = h
  solo-goes w (Some k) h =
      let lt = on_below w k h.1 in
      (h.0, h.1, solo-set t w k (stepped t (slice_index_or w k off)) h.0 (omega (arith, h.0.0.0)) (omega (arith, h.0.1, if-on (λ _. 1) (slice_index_or w k off) h.1)) (stepped-placed t sound (slice_index_or w k off)))
