use Rattle.std.proofs.Common.{◌++◌, ap}
use Rattle.std.specs.List.{flat_map}
use Rattle.fields.specs.declared.spot.File.TheVariants.{Venue}
use Rattle.layout.specs.Layout.{header_field, resource_field, end_field}
use Rattle.writer.proofs.Joins.{appends_then, appends-as}
use Rattle.writer.proofs.venue.VenueEncode.put.Goals as goal

pub returns : goal.returns
returns c =
    let lent = c.as_slice.ensures.value in
    appends-as (ap (λ l. header_field Venue ++ (flat_map resource_field l ++ end_field)) lent) (appends_then c.put.ensures (appends_then c.put_all.ensures c.put-2.ensures))
