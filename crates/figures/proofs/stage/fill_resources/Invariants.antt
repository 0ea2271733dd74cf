use Rattle.std.proofs.Common.{ℕ, ◌<◌}
use Rattle.tables.specs.Plan.{plan}
use Rattle.figures.specs.Claims.{of_resource, FiguresHeld}
use Rattle.figures.proofs.stage.fill_resources.Given as goal

abbrev pub invariant-loop-resource : goal.invariant-loop-resource
invariant-loop-resource l = (r : ℕ) → r < l.resource → FiguresHeld (plan l.tables) r (of_resource l.known r)
