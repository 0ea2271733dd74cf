-- What a clearing rule names.
use Rattle.std.specs.Prelude.{ℕ, List, Some, None, Option}
use Rattle.tables.specs.Plan.{Plan}
use Rattle.figures.specs.Placing.{home_step}
use Rattle.rules.specs.Placing.{On}

-- for an allowed placing with a piece on, a piece on whose step home gives an allowed placing; for any other list none
abbrev pub Names : (List ℕ → Type 0) → Plan → List ℕ → Option ℕ → Type 0
Names allowed t w None = allowed w → (k : ℕ) → On w k → ⊥
Names allowed t w (Some k) = allowed w × On w k × allowed (home_step t w k)
