use Rattle.std.proofs.Common.{[]}
use Rattle.tables.proofs.Lookups.{part-looked-up}
use Rattle.tables.proofs.reads.position_at.Goals as goal

pub returns : goal.returns
returns c =
    let found = c.get.ensures.lookup in
    record {
      nexts = part-looked-up (λ x. x.nexts) c.args.positions.now c.args.p [] _ found;
      needs = part-looked-up (λ x. x.needs) c.args.positions.now c.args.p [] _ found;
    }
