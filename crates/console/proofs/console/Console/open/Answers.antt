use Rattle.tables.specs.Plan.{plan}
use Rattle.rules.specs.Placings.{formed-nobody}
use Rattle.console.proofs.console.Console.open.Goals as goal

pub invariant_of-result : goal.invariant_of-result
invariant_of-result g c = record { formed = formed-nobody (plan c.args.stage.tables) }
