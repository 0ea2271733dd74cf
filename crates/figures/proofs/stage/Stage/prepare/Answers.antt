use Rattle.std.proofs.Common.{◌≡◌, ℕ, ◌<◌, [], replicate, get_or, subst, sym, refl, ap, ◌∙◌, ⊎_elim, arith}
use Rattle.std.proofs.lemmas.Bool.{cases_lt}
use Rattle.std.proofs.lemmas.List.{get_or-replicate}
use Rattle.tables.specs.Plan.{plan, kinds}
use Rattle.figures.specs.declared.claim.ResourceFigures.{ResourceFigures}
use Rattle.figures.specs.Claims.{of_resource, FiguresHeld}
use Rattle.figures.proofs.Sounds.{sound}
use Rattle.figures.proofs.Lengths.{length-figure}
use Rattle.figures.proofs.Lowest.{lowest-figure}
use Rattle.figures.proofs.Past.{nothing-held}
use Rattle.figures.proofs.Lawful.{laws}
use Rattle.figures.proofs.stage.Stage.prepare.Goals as goal

pub fill_resources-requires : goal.fill_resources-requires
fill_resources-requires c =
    let all = sound c.args.tables in
    record { each = λ p lt. c.row_of-lowest.ensures.each p 0 lt ∙ lowest-figure (plan c.args.tables) p; long = omega (arith, all.few); few = all.few }

pub invariant_of-result : goal.invariant_of-result
invariant_of-result c =
    let t = plan c.args.tables in
    let none = c.no_figures-resources.result in
    let rows = c.fill_resources.new.rows in
    let d : ResourceFigures = record { claims = []; peaks = [] } in
    let peaks = λ (p : ℕ) (few : p < 128). ap (λ ps. get_or ps p 0) c.no_figures-resources.ensures.peaks ∙ get_or-replicate 128 p 0 0 few in
    let held : (r : ℕ) → r < 16 → FiguresHeld t r (of_resource rows r) = λ r lt.
    ⊎_elim
    (c.fill_resources.ensures.held r)
    (λ ge. let Held : ResourceFigures → Type 0 = λ f. FiguresHeld t r f in subst Held (sym (c.fill_resources.ensures.rest r ge ∙ get_or-replicate 16 r none d lt)) (nothing-held t (sound c.args.tables) r none ge c.no_figures-resources.ensures.claims peaks))
    (cases_lt r (kinds t)) in
    record {
      lengths_held = λ p lt. c.row_of-lengths.ensures.each p 0 lt ∙ length-figure t p;
      lowest_held = λ p lt. c.row_of-lowest.ensures.each p 0 lt ∙ lowest-figure t p;
      amounts_held = λ r p h. ap (λ x. x.amount) ((held r h.0).claims p h.1);
      setters_held = λ r p h. ap (λ x. x.position) ((held r h.0).claims p h.1);
      peaks_held = λ r p h. (held r h.0).peaks p h.1;
    }

pub returns : goal.returns
returns c = record { same = refl; laws = laws (plan c.args.tables) (sound c.args.tables) }
