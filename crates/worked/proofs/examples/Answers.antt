use Rattle.std.proofs.Common.{ℕ, ◌≤◌, List, [], ◌∷◌, set, refl, inl, arith}
use Rattle.tables.specs.Plan.{capacity, need}
use Rattle.figures.specs.Claims.{claim}
use Rattle.figures.specs.Placing.{off}
use Rattle.figures.proofs.Bounds.{claim-le}
use Rattle.rules.specs.Placing.{Fits, held, total}
use Rattle.rules.specs.Ordered.{Ordered}
use Rattle.rules.specs.Placings.{nobody-on}
use Rattle.rules.specs.Kept.{kept-empty}
use Rattle.home_order.specs.HomeOrder.{GoesHome, AllGoHome}
use Rattle.home_order.specs.Goers.{Stuck}
use Rattle.home_order.specs.Homes.{stuck-order}
use Rattle.home_order.specs.Points.{home-empty}
use Rattle.worked.specs.Examples.{lane_lift, three_resources, pieces}
use Rattle.worked.proofs.Fronts.{on-front, placed-front, below_two, below-three}
use Rattle.worked.proofs.examples.Goals as goal

abbrev three : List ℕ
three = pieces (0 ∷ 2 ∷ 2 ∷ [])

abbrev crossed : List ℕ
crossed = pieces (0 ∷ 3 ∷ [])

-- the lift is too small for the first piece's step, the lane for those of the others
three-stuck : Stuck (Fits (lane_lift 1)) (lane_lift 1) three
three-stuck k on =
    below-three (λ k. GoesHome (Fits (lane_lift 1)) (lane_lift 1) three k → ⊥)
    (λ goes. omega (arith, goes.1.0 1 (omega arith)))
    (λ goes. omega (arith, goes.1.0 0 (omega arith)))
    (λ goes. omega (arith, goes.1.0 0 (omega arith)))
    k
    (on-front (0 ∷ 2 ∷ 2 ∷ []) 61 k on)

-- the first piece comes to b, where the second stands, and the second to a
crossed-stuck : Stuck (Fits three_resources) three_resources crossed
crossed-stuck k on =
    below_two (λ k. GoesHome (Fits three_resources) three_resources crossed k → ⊥)
    (λ goes. omega (arith, goes.1.1.0 1 (omega arith)))
    (λ goes. omega (arith, goes.1.0 0 (omega arith)))
    k
    (on-front (0 ∷ 3 ∷ []) 62 k on)

fits : (lanes : ℕ) (w : List ℕ) → held (lane_lift lanes) 0 w ≤ lanes → held (lane_lift lanes) 1 w ≤ 2 → Fits (lane_lift lanes) w
fits lanes w lane lift = below_two (λ r. held (lane_lift lanes) r w ≤ capacity (lane_lift lanes) r) lane lift

-- the second, the third and then the first piece go home
wide-goes : AllGoHome (Fits (lane_lift 2)) (lane_lift 2) three (1 ∷ 2 ∷ 0 ∷ [])
wide-goes =
    let one = set three 1 off in
    let two = set one 2 off in (
      (λ e. absurd (omega arith)),
      (fits 2 (set three 1 2) (omega arith) (omega arith), (fits 2 (set three 1 3) (omega arith) (omega arith), tt)),
      (
        (λ e. absurd (omega arith)),
        (fits 2 (set one 2 2) (omega arith) (omega arith), (fits 2 (set one 2 3) (omega arith) (omega arith), tt)),
        (
          (λ e. absurd (omega arith)),
          (fits 2 (set two 0 0) (omega arith) (omega arith), (fits 2 (set two 0 1) (omega arith) (omega arith), tt)),
          nobody-on,
        ),
      ),
    )

crossed_ordered : Ordered three_resources crossed
crossed_ordered = (
  (refl, placed-front three_resources (0 ∷ 3 ∷ []) 62 (omega arith, (omega arith, tt))),
  below-three (λ r. total (claim three_resources r) crossed ≤ capacity three_resources r) (omega arith) (omega arith) (omega arith),
)

pub returns : goal.returns
returns c = record {
  lane = refl;
  lift = refl;
  lengths = refl;
  two_ordered = (
    (refl, placed-front (lane_lift 1) (0 ∷ 2 ∷ []) 62 (omega arith, (omega arith, tt))),
    below_two (λ r. total (claim (lane_lift 1) r) (pieces (0 ∷ 2 ∷ [])) ≤ capacity (lane_lift 1) r) (omega arith) (omega arith),
  );
  three_fit = fits 1 three (omega arith) (omega arith);
  three_not_ordered = λ h. omega (arith, h.1 1 (omega arith));
  three_not_home = λ h. stuck-order (Fits (lane_lift 1)) (lane_lift 1) three three-stuck h.1 0 (λ e. absurd (omega arith));
  wide_home = (((refl, placed-front (lane_lift 2) (0 ∷ 2 ∷ 2 ∷ []) 61 (omega arith, (omega arith, (omega arith, tt)))), fits 2 three (omega arith) (omega arith)), (1 ∷ 2 ∷ 0 ∷ [], wide-goes));
  wide_not_ordered = λ h. omega (arith, h.1 1 (omega arith));
  crossed_not_home = λ h. stuck-order (Fits three_resources) three_resources crossed crossed-stuck h.1 0 (λ e. absurd (omega arith));
  crossed_ordered = crossed_ordered;
  crossed_either = inl crossed_ordered;
  past_lower = refl;
  empty_room = λ t sound. kept-empty t (λ r p. need t p r) (λ r p. sound.room p r);
  empty_ordered = λ t sound. kept-empty t (claim t) (claim-le t sound);
  empty_home = λ t sound. home-empty t sound;
  empty_either = λ t sound. inl (kept-empty t (claim t) (claim-le t sound));
}
