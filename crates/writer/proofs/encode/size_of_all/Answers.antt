use Rattle.std.proofs.Common.{rules}
use Rattle.std.proofs.lemmas.List.Concat.{length-flat_map}
use Rattle.writer.proofs.encode.size_of_all.Goals as goal

pub sum-requires-clause-fits : goal.sum-requires-clause-fits
sum-requires-clause-fits g c =
    let same = length-flat_map g.T.Encode.layout c.args.parts.now in
    let most = c.requires in
    search (rules, same, most)

pub returns : goal.returns
returns g c =
    let same = length-flat_map g.T.Encode.layout c.args.parts.now in
    search (rules, same)
