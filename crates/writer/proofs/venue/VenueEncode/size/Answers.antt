use Rattle.std.proofs.Common.{vec_items, arith}
use Rattle.writer.proofs.Sizes.{venue-size}
use Rattle.writer.proofs.venue.VenueEncode.size.Goals as goal

pub returns : goal.returns
returns c =
    let v = c.args.self.now in
    omega (arith, venue-size (vec_items v.resources) v.valid, c.len.ensures, v.resources.ok)
