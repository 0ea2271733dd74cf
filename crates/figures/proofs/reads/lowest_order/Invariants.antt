use Rattle.std.proofs.Common.{◌≡◌}
use Rattle.tables.specs.Plan.{plan}
use Rattle.figures.specs.Claims.{lowest_of}
use Rattle.figures.proofs.reads.lowest_order.Given as goal

abbrev pub invariant-loop-r : goal.invariant-loop-r
invariant-loop-r l = l.least ≡ lowest_of (plan l.tables) l.p l.r
