use Rattle.std.proofs.Common.{◌-◌, vec_len}
use Rattle.files.proofs.VenueTurns.{Going}
use Rattle.files.proofs.venue.read_resources.Given as goal

abbrev pub invariant-loop-capacity : goal.invariant-loop-capacity
invariant-loop-capacity l = Going l.bytes l.reader l.resources

abbrev pub decreases-loop-capacity : goal.decreases-loop-capacity
decreases-loop-capacity l = 16 - vec_len l.resources
