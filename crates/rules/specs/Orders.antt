-- The ordered rule: what it allows fits, and the step home of the piece with the lowest lowest order is allowed.
use Rattle.std.specs.Prelude.{◌≡◌, ℕ, ◌<◌, ◌≤◌, List, [], ◌∷◌, get_or, Some, None, Option, ◌≢◌, slice_index_or, refl}
use Rattle.std.proofs.Common.{⊎_elim, arith}
use Rattle.std.specs.Option.{unwrap_or}
use Rattle.std.specs.List.{AllByRecursion}
use Rattle.std.proofs.ByRecursion.{All-from_get_or, sum_by_le}
use Rattle.std.proofs.lemmas.Bool.{cases_eq, cases_lt, lt-ltb}
use Rattle.tables.specs.Plan.{Plan, count, order, need}
use Rattle.figures.specs.Sound.{Sound}
use Rattle.figures.specs.Way.{main, after}
use Rattle.figures.specs.Claims.{lowest, claim, claim_along}
use Rattle.figures.specs.Placing.{off, if_on, stepped, home_step}
use Rattle.figures.proofs.Ways.{main-ahead}
use Rattle.figures.proofs.Bounds.{need-le-claim, claim-le, claim-falls}
use Rattle.rules.specs.Placing.{Fits, total}
use Rattle.rules.specs.Rule.{Names}
use Rattle.rules.specs.Ordered.{Ordered, lowest_order, Lowest, OrderedNames}
use Rattle.rules.specs.Placings.{on_below, if-on, if-off, if-le, total-set, total-le, formed-set}

-- a claim on a resource of an order below the lowest is 0
claim-none : (t : Plan) (r p : ℕ) → order t r < lowest t p → claim t r p ≡ 0
claim-none t r p h = along (after t p)
  where
    along : (qs : List ℕ) → claim_along t r p qs ≡ 0
    along [] = rw (lt-ltb (order t r) (lowest t p) h)
    along (q ∷ qs) = rw (lt-ltb (order t r) (lowest t p) h)

-- a step home leads to a position or off
pub stepped-placed : (t : Plan) → Sound t → (p : ℕ) → (stepped t p ≢ off) → stepped t p < count t
stepped-placed t sound p = by (main t p) refl
  where
    by : (o : Option ℕ) → main t p ≡ o → (unwrap_or o off ≢ off) → unwrap_or o off < count t
    by None e on = absurd (on refl)
    by (Some q) e on = (main-ahead t sound p q e).1

module _ (t : Plan) (sound : Sound t) where
  pub ordered-fits : (w : List ℕ) → Ordered t w → Fits t w
  ordered-fits w h r known = omega (arith, h.1 r known, total-le (λ p. need t p r) (claim t r) (λ p. need-le-claim t sound r p known) w)

  -- a step home does not raise a claim on what is not below the lowest order
  falls : (r p : ℕ) → p < count t → lowest t p ≤ order t r → if_on (claim t r) (stepped t p) ≤ claim t r p
  falls r p at low = by (main t p) refl
    where
      by : (o : Option ℕ) → main t p ≡ o → if_on (claim t r) (unwrap_or o off) ≤ claim t r p
      by None e = omega (arith, if-off (claim t r) off refl)
      by (Some q) e = omega (arith, if-le (claim t r) q, claim-falls t sound r p q at e low)

  -- no piece claims anything of a resource below the lowest order
  none-claimed : (w : List ℕ) (k r : ℕ) → Lowest t w k → order t r < lowest_order t w k → total (claim t r) w ≡ 0
  none-claimed w k r low h =
      let each : AllByRecursion (λ p. if_on (claim t r) p ≤ 0) w = All-from_get_or (λ p. if_on (claim t r) p ≤ 0) w off (λ j _. ⊎_elim
      (λ e. omega (arith, if-off (claim t r) (slice_index_or w j off) e))
      (λ on. omega (arith, if-on (claim t r) (slice_index_or w j off) on, claim-none t r (slice_index_or w j off) (omega (arith, low.least j on))))
      (cases_eq (slice_index_or w j off) off)) in
      omega (arith, sum_by_le (if_on (claim t r)) 0 w each)

  steps : (w : List ℕ) (k : ℕ) → Ordered t w → Lowest t w k → Ordered t (home_step t w k)
  steps w k h low =
      let p = get_or w k off in
      let s = stepped t p in
      let lt = on_below w k low.on in (
        formed-set t w k s (omega (arith, h.0.0)) (stepped-placed t sound p) h.0,
        λ r known.
            let swap = total-set (claim t r) w k s lt in
            ⊎_elim
            (λ below. omega (arith, swap, none-claimed w k r low below, if-le (claim t r) s, claim-le t sound r s))
            (λ above. omega (arith, swap, falls r p (h.0.1 k low.on) above, h.1 r known, if-on (claim t r) p low.on))
            (cases_lt (order t r) (lowest t p)),
      )

  pub ordered-goes : (w : List ℕ) (r : Option ℕ) → OrderedNames t w r → Names (Ordered t) t w r
  ordered-goes w None h = h
  ordered-goes w (Some k) h = (h.0, h.1.on, steps w k h.0 h.1)
