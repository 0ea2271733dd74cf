-- The piece with the lowest lowest order, found piece by piece.
use Rattle.std.proofs.Common.{◌≡◌, ℕ, ◌<◌, ◌≤◌, List, Some, None, Option}
use Rattle.tables.specs.Plan.{Plan}
use Rattle.rules.specs.Placing.{On}
use Rattle.rules.specs.Ordered.{lowest_order}

-- of the first i pieces, k is the first on with the lowest order, which is least
pub record Best (t : Plan) (w : List ℕ) (i k least : ℕ) : Type 0 where
  pub on : On w k
  pub is : least ≡ lowest_order t w k
  pub low : (j : ℕ) → j < i → On w j → least ≤ lowest_order t w j
  pub before : (j : ℕ) → On w j → j < k → least < lowest_order t w j
  pub within : k < i

-- none of them is on, or the best of them
abbrev pub Sofar : Plan → List ℕ → ℕ → Option (ℕ × ℕ) → Type 0
Sofar t w i None = (j : ℕ) → j < i → On w j → ⊥
Sofar t w i (Some b) = Best t w i b.0 b.1
