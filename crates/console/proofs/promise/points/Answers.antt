use Rattle.tables.specs.Plan.{plan}
use Rattle.figures.proofs.Sounds.{sound}
use Rattle.console.proofs.promise.points.Goals as goal

pub returns : goal.returns
returns g c =
    let rule = c.args.rule.now in
    let tables = c.args.stage.now.tables in
    let t = plan tables in
    let admits = g.met.R.AdmissionRule in
    record {
      formed = λ w. admits.formed rule t w (sound tables);
      empty = admits.empty rule t (sound tables);
      alone = λ k p. admits.alone rule t k p (sound tables);
      fits = λ w. admits.fits rule t w (sound tables);
      removal = λ w k. admits.removal rule t w k (sound tables);
      goes = λ w r. g.met.R.ClearingRule.goes rule t w r (sound tables);
    }
