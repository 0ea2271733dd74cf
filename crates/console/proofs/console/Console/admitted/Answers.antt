use Rattle.std.proofs.Common.{set, refl}
use Rattle.tables.specs.Plan.{plan}
use Rattle.figures.proofs.Sounds.{sound}
use Rattle.console.proofs.console.Console.admitted.Goals as goal

pub returns : goal.returns
returns g c =
    let self = c.args.self.now in
    let allowed = c.allows.ensures.answer.0 c.if-not-allows.false in
    (refl, allowed, g.met.R.AdmissionRule.formed self.rule (plan self.stage.tables) (set self.placing c.args.k c.args.p) (sound self.stage.tables) allowed)
