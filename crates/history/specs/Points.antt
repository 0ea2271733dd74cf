-- The points of a clearing rule at one venue and show.
use Rattle.std.specs.Prelude.{ℕ, ◌<◌, List, Option, slice_set}
use Rattle.tables.specs.Plan.{Plan, count}
use Rattle.figures.specs.Placing.{off}
use Rattle.rules.specs.Placing.{Formed, Fits, nobody}
use Rattle.rules.specs.Rule.{Names}

pub record Points (t : Plan) (allowed : List ℕ → Type 0) (named : List ℕ → Option ℕ → Type 0) : Type 0 where
  pub formed : (w : List ℕ) → allowed w → Formed t w
  pub empty : allowed nobody
  pub alone : (k p : ℕ) → k < 64 → p < count t → allowed (slice_set nobody k p)
  pub fits : (w : List ℕ) → allowed w → Fits t w
  pub removal : (w : List ℕ) (k : ℕ) → allowed w → k < 64 → allowed (slice_set w k off)
  pub goes : (w : List ℕ) (r : Option ℕ) → named w r → Names allowed t w r
