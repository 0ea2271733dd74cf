use Rattle.std.proofs.Common.{◌≡◌, [], length, drop, subst, sym, arith, rules}
use Rattle.std.proofs.lemmas.List.{get_or_append_left}
use Rattle.tables.specs.Plan.{plan}
use Rattle.figures.specs.declared.claim.ResourceFigures.{ResourceFigures}
use Rattle.figures.specs.Claims.{FiguresHeld}
use Rattle.figures.proofs.Entries.{entry-behind}
use Rattle.figures.proofs.stage.fill_resources.Goals as goal

pub returns : goal.returns
returns c =
    let n = c.resource_count.result in
    let known = c.loop-resource.known in
    let old = c.args.rows.now in
    let d : ResourceFigures = record { claims = []; peaks = [] } in
    let long : length known ≡ n = search rules in
    record {
      held = λ r lt. let Held : ResourceFigures → Type 0 = λ f. FiguresHeld (plan c.args.tables.now) r f in subst Held (sym (get_or_append_left known (drop n old) d r (omega (arith, c.resource_count.ensures.is)))) (c.loop-resource.invariant r (omega (arith, c.resource_count.ensures.is)));
      rest = λ r ge. entry-behind known old n r d long (omega (arith, c.resource_count.ensures.is));
    }
