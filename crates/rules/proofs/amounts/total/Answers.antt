use Rattle.std.proofs.Common.{not, ◌==◌, ◌∙◌, arith, rules, tests}
use Rattle.std.proofs.lemmas.Iterator.{YieldsList-from_slice, YieldsList-from_map}
use Rattle.std.proofs.lemmas.Iterator.Consumers.{YieldsList-at, YieldsList-from_filter, sum_from_yields_List}
use Rattle.std.proofs.lemmas.Iterator.Adapters.{fits_from_length, at_most_from_yields_List, at_most_from_Filter}
use Rattle.tables.specs.Plan.{plan}
use Rattle.figures.specs.Placing.{off}
use Rattle.rules.proofs.Chains.{total-chain}
use Rattle.rules.proofs.amounts.total.Goals as goal

pub sum-requires-clause-fits : goal.sum-requires-clause-fits
sum-requires-clause-fits g c = fits_from_length _ _ 64 _ (at_most_from_Filter _ (at_most_from_yields_List (YieldsList-from_slice c.args.placing.now (search rules)) (omega arith))) c.map.ensures.closure (omega arith) (λ x r q k. search rules)

pub returns : goal.returns
returns g c =
    let f = g.A.Amount.amount c.args.kind.now (plan c.args.stage.now.tables) c.args.resource in
    let w = c.args.placing.now in
    sum_from_yields_List c.map.result c.sum.result c.sum.ensures.ran (YieldsList-from_map _ f (YieldsList-at c.map.ensures.source (YieldsList-from_filter _ (λ p. not (p == off)) (YieldsList-from_slice w (cc)) c.filter.ensures.closure (λ x r q k. search (rules, tests)))) c.map.ensures.closure (λ x r q k. search (rules, tests)))
    ∙ total-chain f w
