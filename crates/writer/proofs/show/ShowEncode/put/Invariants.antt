use Rattle.writer.proofs.Shows.{whole_of, Going}
use Rattle.writer.proofs.show.ShowEncode.put.Given as goal

abbrev pub invariant-loop-route : goal.invariant-loop-route
invariant-loop-route l = Going (whole_of l.self) l.route-items l.route-index l.left l.initial.out l.out
