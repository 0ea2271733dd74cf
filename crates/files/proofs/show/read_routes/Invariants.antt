use Rattle.std.proofs.Common.{◌-◌, vec_len}
use Rattle.files.proofs.ShowTurns.{Going}
use Rattle.files.proofs.show.read_routes.Given as goal

abbrev pub invariant-loop-count : goal.invariant-loop-count
invariant-loop-count l = Going l.resources l.bytes l.reader l.routes l.positions

abbrev pub decreases-loop-count : goal.decreases-loop-count
decreases-loop-count l = 16 - vec_len l.routes
