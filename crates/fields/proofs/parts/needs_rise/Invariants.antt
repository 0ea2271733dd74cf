use Rattle.std.proofs.Common.{◌≡◌, length}
use Rattle.fields.specs.Fields.{rises}
use Rattle.fields.proofs.parts.needs_rise.Given as goal

abbrev pub invariant-loop-left : goal.invariant-loop-left
invariant-loop-left l = rises l.least l.left ≡ rises 0 l.needs

abbrev pub decreases-loop-left : goal.decreases-loop-left
decreases-loop-left l = length l.left
