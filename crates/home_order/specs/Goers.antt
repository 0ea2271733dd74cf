-- Who can go home beside the others.
use Rattle.std.specs.Prelude.{ℕ, ◌<◌, List}
use Rattle.tables.specs.Plan.{Plan}
use Rattle.rules.specs.Placing.{On}
use Rattle.home_order.specs.HomeOrder.{GoesHome}

-- no piece on can go its whole way home
abbrev pub Stuck : (List ℕ → Type 0) → Plan → List ℕ → Type 0
Stuck fine t w = (k : ℕ) → On w k → GoesHome fine t w k → ⊥

-- k is the first piece on that can
pub record Goer (fine : List ℕ → Type 0) (t : Plan) (w : List ℕ) (k : ℕ) : Type 0 where
  pub on : On w k
  pub goes : GoesHome fine t w k
  pub first : (j : ℕ) → On w j → j < k → GoesHome fine t w j → ⊥
