use Rattle.std.proofs.Common.{◌≡◌, ℕ, ◌<◌, get_or}
use Rattle.tables.specs.Plan.{plan}
use Rattle.rules.specs.Placing.{held}
use Rattle.home_order.proofs.sums.sums_of.Given as goal

abbrev pub invariant-loop-resource : goal.invariant-loop-resource
invariant-loop-resource l = (r : ℕ) → r < l.resource → get_or l.known r 0 ≡ held (plan l.stage.tables) r l.placing
