-- What the figures of every accepted pair keep to.
use Rattle.std.specs.Prelude.{◌≡◌, ℕ, ◌+◌, ◌<◌, ◌≤◌, List, length, Some, None}
use Rattle.tables.specs.Plan.{Plan, count, kinds, capacity, order, need}
use Rattle.figures.specs.Way.{main, way_length}
use Rattle.figures.specs.Claims.{lowest, claim}
use Rattle.figures.specs.Placing.{distance}

pub record Laws (t : Plan) : Type 0 where
  -- the main next of a position is a position
  pub stays : (p q : ℕ) → main t p ≡ Some q → q < count t
  -- a step home shortens the way by exactly one
  pub shortens : (p q : ℕ) → p < count t → main t p ≡ Some q → way_length t p ≡ way_length t q + 1
  pub ends : (p : ℕ) → p < count t → main t p ≡ None → way_length t p ≡ 1
  pub lengths : (p : ℕ) → p < count t → (1 ≤ way_length t p) × (way_length t p ≤ 128)
  -- 64 pieces are never further from home than this
  pub distances : (w : List ℕ) → length w ≡ 64 → distance t w ≤ 8192
  -- a claim covers the need, and the capacity covers a claim
  pub covers : (r p : ℕ) → r < kinds t → need t p r ≤ claim t r p
  pub covered : (r p : ℕ) → claim t r p ≤ capacity t r
  -- the main next claims no more of a resource whose order is not below the lowest order here
  pub falls : (r p q : ℕ) → p < count t → main t p ≡ Some q → lowest t p ≤ order t r → claim t r q ≤ claim t r p
