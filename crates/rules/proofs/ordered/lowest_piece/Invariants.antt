use Rattle.tables.specs.Plan.{plan}
use Rattle.rules.proofs.Lowest.{Sofar}
use Rattle.rules.proofs.ordered.lowest_piece.Given as goal

abbrev pub invariant-loop-piece : goal.invariant-loop-piece
invariant-loop-piece l = Sofar (plan l.stage.tables) l.placing l.piece l.best
