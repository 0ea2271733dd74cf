-- What a pair of files holds.
use Rattle.std.specs.Prelude.{◌≡◌, ℕ, true, List, vec_items}
use Rattle.tables.specs.declared.resource.Resource.{Resource}
use Rattle.tables.specs.declared.tables.Tables.{Tables}
use Rattle.tables.specs.Model.{Pos, counts_of, positions_of}
use Rattle.tables.specs.Valid.{valid_venue, valid_show, fits_venue}

-- the venue's resources; how many positions each route has; all positions, route by route
pub record Contents : Type 0 where
  pub resources : List Resource
  pub counts : List ℕ
  pub positions : List Pos

abbrev pub contents : Tables → Contents
contents t = record {
  resources = vec_items t.venue.resources;
  counts = counts_of (vec_items t.show.routes);
  positions = positions_of (vec_items t.show.positions);
}

-- a valid venue, a valid show, and the show fits the venue
pub record Valid (c : Contents) : Type 0 where
  pub venue : valid_venue c.resources ≡ true
  pub show : valid_show c.counts c.positions ≡ true
  pub fits : fits_venue c.resources c.positions ≡ true
