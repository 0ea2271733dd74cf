use Rattle.std.proofs.Common.{◌≡◌, ◌||◌, ◌==◌, nat_lt, rules, tests}
use Rattle.std.specs.List.{list_all}
use Rattle.std.proofs.lemmas.Iterator.{YieldsList-from_slice}
use Rattle.std.proofs.lemmas.Iterator.Search.{all_from_yields_List}
use Rattle.tables.specs.Plan.{plan, count}
use Rattle.figures.specs.Placing.{off}
use Rattle.rules.proofs.Chains.{all-placed, placed-all}
use Rattle.rules.proofs.placing.all_placed.Goals as goal

pub returns : goal.returns
returns c =
    let n = count (plan c.args.tables.now) in
    let w = c.args.placing.now in
    let is : c.all.result ≡ list_all (λ p. (p == off) || nat_lt p n) w = all_from_yields_List _ _ _ c.all.result c.all.ensures.ran (YieldsList-from_slice w (cc)) (λ x b q k. search (rules, tests)) in
    rw is (all-placed n w, placed-all n w)
