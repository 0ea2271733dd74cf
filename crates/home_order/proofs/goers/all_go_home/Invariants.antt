use Rattle.tables.specs.Plan.{plan}
use Rattle.rules.specs.Placing.{on_count}
use Rattle.home_order.proofs.Rests.{Rest}
use Rattle.home_order.proofs.goers.all_go_home.Given as goal

abbrev pub invariant-loop-k : goal.invariant-loop-k
invariant-loop-k l = Rest (plan l.stage.tables) l.initial.rest l.sums l.rest

abbrev pub decreases-loop-k : goal.decreases-loop-k
decreases-loop-k l = on_count l.rest
