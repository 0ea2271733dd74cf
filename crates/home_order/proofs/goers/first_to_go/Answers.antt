use Rattle.std.proofs.Common.{◌≡◌, rules, tests}
use Rattle.std.proofs.lemmas.Iterator.{YieldsList-from_slice, IsFirst-from_position}
use Rattle.tables.specs.Plan.{plan}
use Rattle.figures.proofs.Sounds.{sound}
use Rattle.home_order.proofs.Firsts.{Goes, first-goer}
use Rattle.home_order.proofs.goers.first_to_go.Goals as goal

pub returns : goal.returns
returns c =
    let tables = c.args.stage.now.tables in
    let t = plan tables in
    let w = c.args.placing.now in
    let sums = c.args.sums.now in
    let same : c.map.result ≡ c.position.result = search rules in
    rw same
    (first-goer t (sound tables) w sums c.requires.sums c.position.result (IsFirst-from_position _ _ c.position.result (Goes t sums) (λ p. Goes t sums p → ⊥) c.position.ensures.ran (YieldsList-from_slice w (cc)) (λ x q k. search (rules, tests)) (λ x q k. search (rules, tests))))
