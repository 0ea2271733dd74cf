-- What holds of an amount that is never above the capacity.
use Rattle.std.specs.Prelude.{ℕ, ◌<◌, ◌≤◌, List, slice_set}
use Rattle.std.proofs.Common.{arith}
use Rattle.tables.specs.Plan.{Plan, count, capacity}
use Rattle.figures.specs.Placing.{off}
use Rattle.rules.specs.Placing.{Formed, Within, nobody}
use Rattle.rules.specs.Placings.{if-le, formed-nobody, formed-set, formed-off, total-nobody, total-set}

module _ (t : Plan) (amount : ℕ → ℕ → ℕ) (bounded : (r p : ℕ) → amount r p ≤ capacity t r) where
  abbrev Kept : List ℕ → Type 0
  Kept w = Formed t w × Within t amount w

  pub kept-empty : Kept nobody
  kept-empty = (formed-nobody t, λ r h. omega (arith, total-nobody (amount r)))

  -- one piece, wherever it is
  pub within-alone : (k p : ℕ) → k < 64 → Within t amount (slice_set nobody k p)
  within-alone k p lt r h = omega (arith, total-set (amount r) nobody k p lt, total-nobody (amount r), if-le (amount r) p, bounded r p)

  pub kept-alone : (k p : ℕ) → k < 64 → p < count t → Kept (slice_set nobody k p)
  kept-alone k p lt at = (formed-set t nobody k p lt (λ _. at) (formed-nobody t), within-alone k p lt)

  pub kept-removal : (w : List ℕ) (k : ℕ) → k < 64 → Kept w → Kept (slice_set w k off)
  kept-removal w k lt h = (
    formed-off t w k lt h.0,
    λ r known. omega (arith, total-set (amount r) w k off (omega (arith, h.0.0)), h.1 r known),
  )
