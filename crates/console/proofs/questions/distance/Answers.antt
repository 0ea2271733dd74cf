use Rattle.std.proofs.Common.{◌≡◌, ◌≤◌, ◌∙◌, ⊎_elim, arith, rules, tests}
use Rattle.std.proofs.lemmas.Bool.{cases_eq}
use Rattle.std.proofs.lemmas.List.Sums.{sum-map}
use Rattle.std.proofs.lemmas.Iterator.{YieldsList-from_slice, YieldsList-from_map}
use Rattle.std.proofs.lemmas.Iterator.Adapters.{fits_from_length, at_most_from_yields_List}
use Rattle.std.proofs.lemmas.Iterator.Consumers.{YieldsList-at, sum_from_yields_List}
use Rattle.tables.specs.Plan.{plan}
use Rattle.figures.specs.Way.{way_length}
use Rattle.figures.specs.Placing.{off, if_on}
use Rattle.figures.proofs.Sounds.{sound}
use Rattle.figures.proofs.Lengths.{length-any}
use Rattle.rules.specs.Placings.{if-on, if-off}
use Rattle.console.proofs.questions.distance.Goals as goal

pub sum-requires-clause-fits : goal.sum-requires-clause-fits
sum-requires-clause-fits c =
    let tables = c.args.stage.now.tables in
    let t = plan tables in
    let f = way_length t in
    fits_from_length _ _ 64 _ (at_most_from_yields_List (YieldsList-from_slice c.args.placing.now (search rules)) (omega arith)) c.map.ensures.closure (omega arith)
    (λ x r q k.
    let is : r ≡ if_on f x.now = search (rules, tests) in
    let few : r ≤ 128 = ⊎_elim (λ e. omega (arith, is, if-off f x.now e)) (λ on. omega (arith, is, if-on f x.now on, length-any t (sound tables) x.now)) (cases_eq x.now off) in
    (search rules, omega (arith, few)))

pub returns : goal.returns
returns c =
    let f = way_length (plan c.args.stage.now.tables) in
    sum_from_yields_List c.map.result c.sum.result c.sum.ensures.ran (YieldsList-from_map _ (if_on f) (YieldsList-at c.map.ensures.source (YieldsList-from_slice c.args.placing.now (cc))) c.map.ensures.closure (λ x r q k. search (rules, tests)))
    ∙ sum-map (if_on f) c.args.placing.now
