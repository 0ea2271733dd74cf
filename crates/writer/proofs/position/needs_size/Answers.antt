use Rattle.std.proofs.Common.{◌≡◌, ltb, arith, rules}
use Rattle.std.specs.Prelude.{count_by}
use Rattle.std.proofs.lemmas.Iterator.{YieldsList-from_slice}
use Rattle.std.proofs.lemmas.Iterator.Adapters.{fits_from_length, at_most_from_yields_List}
use Rattle.writer.proofs.Needs.{needs-counted, needs-most}
use Rattle.writer.proofs.position.needs_size.Goals as goal

pub sum-requires-clause-fits : goal.sum-requires-clause-fits
sum-requires-clause-fits c = fits_from_length _ _ 16 _ (at_most_from_yields_List (YieldsList-from_slice c.args.needs.now (search rules)) (omega arith)) c.map.ensures.closure (omega arith) (λ x r q k. search rules)

pub overflow_mul-result : goal.overflow_mul-result
overflow_mul-result c =
    let row = c.args.needs.now in
    let is : c.sum.result ≡ count_by (λ n. ltb 0 n) row = search rules in
    omega (arith, is, needs-counted 0 row, needs-most row (omega arith))

pub returns-clause-size : goal.returns-clause-size
returns-clause-size c =
    let same = needs-counted 0 c.args.needs.now in
    search (rules, same)

pub returns-clause-most : goal.returns-clause-most
returns-clause-most c =
    let row = c.args.needs.now in
    let is : c.sum.result ≡ count_by (λ n. ltb 0 n) row = search rules in
    omega (arith, is, needs-counted 0 row, needs-most row (omega arith))
