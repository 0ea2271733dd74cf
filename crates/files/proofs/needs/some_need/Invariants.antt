use Rattle.std.proofs.Common.{◌≡◌, ℕ, Bool, length}
use Rattle.layout.specs.Rules.{some, needs_in}
use Rattle.files.specs.Steps.{Tests}
use Rattle.files.proofs.needs.some_need.Given as goal

abbrev pub invariant-loop-left : goal.invariant-loop-left
invariant-loop-left g l = (p : ℕ × ℕ → Bool) → Tests p (goal.T-post g l.test) → some p (needs_in l.left) ≡ some p (needs_in l.needs)

abbrev pub decreases-loop-left : goal.decreases-loop-left
decreases-loop-left g l = length l.left
