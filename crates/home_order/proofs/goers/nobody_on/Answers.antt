use Rattle.std.proofs.Common.{◌≡◌, ◌==◌, rules, tests}
use Rattle.std.specs.List.{list_all}
use Rattle.std.proofs.lemmas.Iterator.{YieldsList-from_slice}
use Rattle.std.proofs.lemmas.Iterator.Search.{all_from_yields_List}
use Rattle.figures.specs.Placing.{off}
use Rattle.home_order.proofs.Firsts.{none-on, on-none}
use Rattle.home_order.proofs.goers.nobody_on.Goals as goal

pub returns : goal.returns
returns c =
    let w = c.args.placing.now in
    let is : c.all.result ≡ list_all (λ p. p == off) w = all_from_yields_List _ _ _ c.all.result c.all.ensures.ran (YieldsList-from_slice w (cc)) (λ x b q k. search (rules, tests)) in
    rw is (none-on w, on-none w)
