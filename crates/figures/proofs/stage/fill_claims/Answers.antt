use Rattle.std.proofs.Common.{◌∙◌}
use Rattle.tables.specs.Plan.{plan}
use Rattle.figures.specs.Claims.{made}
use Rattle.figures.proofs.Claimed.{claim-figure}
use Rattle.figures.proofs.stage.fill_claims.Goals as goal

pub returns : goal.returns
returns c = λ p lt. c.fill.ensures.each p (made 0 0) lt ∙ claim-figure (plan c.args.tables.now) c.args.resource p
