-- What accepted files give of a plan.
use Rattle.std.specs.Prelude.{◌≡◌, ℕ, ◌<◌, ◌≤◌, length, slice_index}
use Rattle.tables.specs.Plan.{Plan, kinds, routes, count, capacity, first, next, need}

pub record Sound (t : Plan) : Type 0 where
  -- each named next position is beyond its own, and a position
  pub ahead : (p k : ℕ) → k < length (next t p) → (p < slice_index (next t p) k) × (slice_index (next t p) k < count t)
  -- no need is above the capacity
  pub room : (p r : ℕ) → need t p r ≤ capacity t r
  pub sized : (r : ℕ) → r < kinds t → (0 < capacity t r) × (capacity t r < 65536)
  -- a route begins at a position
  pub begins : (j : ℕ) → j < routes t → first t j < count t
  -- what is no position needs nothing
  pub nothing : (p r : ℕ) → count t ≤ p → need t p r ≡ 0
  pub few : count t ≤ 128
  pub sixteen : kinds t ≤ 16
