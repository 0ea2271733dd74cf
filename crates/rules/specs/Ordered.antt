-- The ordered rule.
use Rattle.std.specs.Prelude.{ℕ, ◌<◌, ◌≤◌, List, Some, None, Option, slice_index_or}
use Rattle.tables.specs.Plan.{Plan}
use Rattle.figures.specs.Claims.{lowest, claim}
use Rattle.figures.specs.Placing.{off}
use Rattle.rules.specs.Placing.{On, Formed, Within}

-- for each resource the claims of the pieces on come to at most the capacity
abbrev pub Ordered : Plan → List ℕ → Type 0
Ordered t w = Formed t w × Within t (claim t) w

-- the lowest order of piece k's position
abbrev pub lowest_order : Plan → List ℕ → ℕ → ℕ
lowest_order t w k = lowest t (slice_index_or w k off)

-- k is the piece on with the lowest lowest order, and on a tie the lowest number
pub record Lowest (t : Plan) (w : List ℕ) (k : ℕ) : Type 0 where
  pub on : On w k
  pub least : (j : ℕ) → On w j → lowest_order t w k ≤ lowest_order t w j
  pub first : (j : ℕ) → On w j → j < k → lowest_order t w k < lowest_order t w j

-- what the ordered rule names
abbrev pub OrderedNames : Plan → List ℕ → Option ℕ → Type 0
OrderedNames t w None = Ordered t w → (k : ℕ) → On w k → ⊥
OrderedNames t w (Some k) = Ordered t w × Lowest t w k
