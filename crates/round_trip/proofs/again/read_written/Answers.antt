use Rattle.tables.specs.Contents.{contents}
use Rattle.round_trip.proofs.Fronts.{laid}
use Rattle.round_trip.proofs.again.read_written.Goals as goal

pub unreachable-requires : goal.unreachable-requires
unreachable-requires c =
    let t = c.args.tables.now in
    c.in-Err.ensures.every (contents t) (laid t _ _ c.requires.venue c.requires.show)

pub returns : goal.returns
returns c =
    let t = c.args.tables.now in
    c.in-Ok.ensures.every (contents t) (laid t _ _ c.requires.venue c.requires.show)
