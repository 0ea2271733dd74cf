use Rattle.std.proofs.Common.{◌^◌, arith, rules}
use Rattle.std.proofs.lemmas.Iterator.{YieldsList-from_slice}
use Rattle.std.proofs.lemmas.Iterator.Adapters.{fits_from_length, at_most_from_yields_List}
use Rattle.rules.proofs.placing.pieces_on.Goals as goal

-- a slice has fewer than 2 ^ 63 elements, and each counts once at most
pub sum-requires-clause-fits : goal.sum-requires-clause-fits
sum-requires-clause-fits c = fits_from_length _ _ (2 ^ 63) _ (at_most_from_yields_List (YieldsList-from_slice c.args.placing.now (search rules)) (search rules)) c.map.ensures.closure (omega arith) (λ x r q k. search rules)
