use Rattle.std.proofs.Common.{◌≡◌}
use Rattle.tables.specs.Plan.{plan}
use Rattle.evening.proofs.Runs.{Sofar}
use Rattle.evening.proofs.evening.run.Given as goal

abbrev pub invariant-loop-step : goal.invariant-loop-step
invariant-loop-step g l =
    let t = plan l.initial.console.stage.tables in
    let rule = l.initial.console.rule in
    Sofar t (g.R.AdmissionRule.allowed rule t) (g.R.ClearingRule.named rule t) l.initial.steps l.step-index l.steps l.console.placing
    × (l.console.stage ≡ l.initial.console.stage)
    × (l.console.rule ≡ l.initial.console.rule)
