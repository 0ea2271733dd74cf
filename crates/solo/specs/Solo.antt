-- One piece at a time.
use Rattle.std.specs.Prelude.{ℕ, ◌≤◌, List, Some, None, Option}
use Rattle.tables.specs.Plan.{Plan}
use Rattle.rules.specs.Placing.{On, Formed, on_count}

-- at most one piece is on
abbrev pub Solo : Plan → List ℕ → Type 0
Solo t w = Formed t w × (on_count w ≤ 1)

-- it names the piece that is on
abbrev pub SoloNames : Plan → List ℕ → Option ℕ → Type 0
SoloNames t w None = Solo t w → (k : ℕ) → On w k → ⊥
SoloNames t w (Some k) = Solo t w × On w k
