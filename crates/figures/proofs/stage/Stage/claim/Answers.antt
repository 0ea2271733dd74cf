use Rattle.std.proofs.Common.{sym, ◌∙◌, arith, rules}
use Rattle.tables.specs.Plan.{plan, count}
use Rattle.figures.specs.Claims.{made}
use Rattle.figures.proofs.Sounds.{sound}
use Rattle.figures.proofs.Claimed.{claim-is}
use Rattle.figures.proofs.Entries.{entry-in, match-weaker}
use Rattle.figures.proofs.Past.{no-resource, no-position}
use Rattle.figures.proofs.stage.Stage.claim.Goals as goal

pub returns : goal.returns
returns c =
    let s = c.args.self.now in
    let t = plan s.tables in
    let p = c.args.p in
    let r = c.args.resource in
    let sixteen = (sound s.tables).sixteen in
    c.unwrap_or.ensures
    ∙ entry-in (count t) p r s.resources (λ f. f.claims) (made 0 0) _ _ c.get.result _ c.get.ensures.lookup (match-weaker c.get.result _ _ _ (λ x h. search rules) c.and_then.ensures)
    (λ at lt. claim-is s.resources t r p (s.amounts_held r p (omega arith, lt)) (s.setters_held r p (omega arith, lt)))
    (λ ge. sym (no-resource t (sound s.tables) r p (omega arith)))
    (λ ge. sym (no-position t (sound s.tables) r p ge))
