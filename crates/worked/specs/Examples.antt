-- Worked examples, as instances of the definitions.
use Rattle.std.specs.Prelude.{◌≡◌, ℕ, ◌-◌, List, [], ◌∷◌, ◌++◌, map, length, replicate}
use Rattle.tables.specs.Plan.{Plan}
use Rattle.figures.specs.Sound.{Sound}
use Rattle.figures.specs.Way.{way_length}
use Rattle.figures.specs.Claims.{claim}
use Rattle.figures.specs.Placing.{off}
use Rattle.rules.specs.Placing.{Fits, Roomy, nobody}
use Rattle.rules.specs.Ordered.{Ordered}
use Rattle.rules.specs.Either.{Either}
use Rattle.home_order.specs.HomeOrder.{HomeOrder}

-- lane (order 1) and lift (capacity 2, order 2); a route of lane then lift, and one of lift then lane
abbrev pub lane_lift : ℕ → Plan
lane_lift lanes = record {
  capacities = lanes ∷ 2 ∷ [];
  orders = 1 ∷ 2 ∷ [];
  firsts = 0 ∷ 2 ∷ [];
  nexts = (1 ∷ []) ∷ [] ∷ (3 ∷ []) ∷ [] ∷ [];
  needs = (1 ∷ 0 ∷ []) ∷ (0 ∷ 1 ∷ []) ∷ (0 ∷ 1 ∷ []) ∷ (1 ∷ 0 ∷ []) ∷ [];
}

-- resources a, b, c of orders 1, 3, 5 and capacity 1; a route of a, c, b, and one of b, a
abbrev pub three_resources : Plan
three_resources = record {
  capacities = 1 ∷ 1 ∷ 1 ∷ [];
  orders = 1 ∷ 3 ∷ 5 ∷ [];
  firsts = 0 ∷ 3 ∷ [];
  nexts = (1 ∷ []) ∷ (2 ∷ []) ∷ [] ∷ (4 ∷ []) ∷ [] ∷ [];
  needs = (1 ∷ 0 ∷ 0 ∷ []) ∷ (0 ∷ 0 ∷ 1 ∷ []) ∷ (0 ∷ 1 ∷ 0 ∷ []) ∷ (0 ∷ 1 ∷ 0 ∷ []) ∷ (1 ∷ 0 ∷ 0 ∷ []) ∷ [];
}

-- one route, whose positions hold orders 3, 1, 5 in turn
abbrev pub three_one_five : Plan
three_one_five = record {
  capacities = 1 ∷ 1 ∷ 1 ∷ [];
  orders = 1 ∷ 3 ∷ 5 ∷ [];
  firsts = 0 ∷ [];
  nexts = (1 ∷ []) ∷ (2 ∷ []) ∷ [] ∷ [];
  needs = (0 ∷ 1 ∷ 0 ∷ []) ∷ (1 ∷ 0 ∷ 0 ∷ []) ∷ (0 ∷ 0 ∷ 1 ∷ []) ∷ [];
}

-- the first pieces at these positions, the others off
abbrev pub pieces : List ℕ → List ℕ
pieces ps = ps ++ replicate (64 - length ps) off

pub record Examples : Type 0 where
  -- claims on lane and on lift, and lengths, position by position
  pub lane : map (claim (lane_lift 1) 0) (0 ∷ 1 ∷ 2 ∷ 3 ∷ []) ≡ 1 ∷ 0 ∷ 0 ∷ 1 ∷ []
  pub lift : map (claim (lane_lift 1) 1) (0 ∷ 1 ∷ 2 ∷ 3 ∷ []) ≡ 1 ∷ 1 ∷ 1 ∷ 0 ∷ []
  pub lengths : map (way_length (lane_lift 1)) (0 ∷ 1 ∷ 2 ∷ 3 ∷ []) ≡ 2 ∷ 1 ∷ 2 ∷ 1 ∷ []
  -- pieces at 0 and 2
  pub two_ordered : Ordered (lane_lift 1) (pieces (0 ∷ 2 ∷ []))
  -- pieces at 0, 2 and 2
  pub three_fit : Fits (lane_lift 1) (pieces (0 ∷ 2 ∷ 2 ∷ []))
  pub three_not_ordered : Ordered (lane_lift 1) (pieces (0 ∷ 2 ∷ 2 ∷ [])) → ⊥
  pub three_not_home : HomeOrder (lane_lift 1) (pieces (0 ∷ 2 ∷ 2 ∷ [])) → ⊥
  -- the same with two lanes
  pub wide_home : HomeOrder (lane_lift 2) (pieces (0 ∷ 2 ∷ 2 ∷ []))
  pub wide_not_ordered : Ordered (lane_lift 2) (pieces (0 ∷ 2 ∷ 2 ∷ [])) → ⊥
  -- a piece at each first position
  pub crossed_not_home : HomeOrder three_resources (pieces (0 ∷ 3 ∷ [])) → ⊥
  pub crossed_ordered : Ordered three_resources (pieces (0 ∷ 3 ∷ []))
  pub crossed_either : Either (Ordered three_resources) (HomeOrder three_resources) (pieces (0 ∷ 3 ∷ []))
  -- the first of orders 3, 1, 5 claims nothing of order 1, and 1 of orders 3 and 5
  pub past_lower : map (λ r. claim three_one_five r 0) (0 ∷ 1 ∷ 2 ∷ []) ≡ 0 ∷ 1 ∷ 1 ∷ []
  -- every supplied rule allows the empty placing
  pub empty_room : (t : Plan) → Sound t → Roomy t nobody
  pub empty_ordered : (t : Plan) → Sound t → Ordered t nobody
  pub empty_home : (t : Plan) → Sound t → HomeOrder t nobody
  pub empty_either : (t : Plan) → Sound t → Either (Ordered t) (HomeOrder t) nobody
