use Rattle.std.proofs.Common.{sym, ◌∙◌, arith, rules}
use Rattle.tables.specs.Plan.{plan, count}
use Rattle.figures.proofs.Sounds.{sound}
use Rattle.figures.proofs.Entries.{entry-in, match-weaker}
use Rattle.figures.proofs.Past.{no-peak-resource, no-peak-position}
use Rattle.figures.proofs.stage.Stage.peak.Goals as goal

pub returns : goal.returns
returns c =
    let s = c.args.self.now in
    let t = plan s.tables in
    let p = c.args.p in
    let r = c.args.resource in
    let sixteen = (sound s.tables).sixteen in
    c.unwrap_or.ensures
    ∙ entry-in (count t) p r s.resources (λ f. f.peaks) 0 _ _ c.get.result _ c.get.ensures.lookup (match-weaker c.get.result _ _ _ (λ x h. search rules) c.and_then.ensures) (λ at lt. s.peaks_held r p (omega arith, lt)) (λ ge. sym (no-peak-resource t (sound s.tables) r p (omega arith))) (λ ge. sym (no-peak-position t (sound s.tables) r p ge))
