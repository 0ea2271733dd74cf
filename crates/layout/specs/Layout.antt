-- The layout of a venue file and of a show file.
use Rattle.std.specs.Prelude.{ℕ, ◌+◌, ◌/◌, ◌%◌, cond, List, [], ◌∷◌, ◌++◌, length, ◌==◌}
use Rattle.std.specs.List.{flat_map}
use Rattle.fields.specs.Fields.{byte_of_kind}
use Rattle.fields.specs.declared.spot.File.{File}
use Rattle.fields.specs.declared.spot.File.TheVariants.{Venue, Show}
use Rattle.tables.specs.declared.resource.Resource.{Resource}
use Rattle.tables.specs.Model.{Pos, Chunk, chunks}

-- a field: its tag, the length of its body in two bytes, high byte first, and its body
abbrev pub field : ℕ → List ℕ → List ℕ
field tag body = tag ∷ (length body / 256) ∷ (length body % 256) ∷ body

-- kind and version
abbrev pub header_field : File → List ℕ
header_field f = field 0x01 (byte_of_kind f ∷ 1 ∷ [])

-- capacity in two bytes, order, name
abbrev pub resource_field : Resource → List ℕ
resource_field r = field 0x10 ((r.capacity / 256) ∷ (r.capacity % 256) ∷ r.order ∷ r.name)

-- the number of its positions
abbrev pub route_field : ℕ → List ℕ
route_field n = field 0x20 ((n / 256) ∷ (n % 256) ∷ [])

-- the needs that are not 0, from resource i on: number, and amount in two bytes
abbrev pub need_fields : ℕ → List ℕ → List ℕ
need_fields i [] = []
need_fields i (a ∷ needs) = cond (a == 0) [] (i ∷ (a / 256) ∷ (a % 256) ∷ []) ++ need_fields (i + 1) needs

-- how many next positions, these as they were named, and the needs
abbrev pub position_field : Pos → List ℕ
position_field x = field 0x21 (length x.nexts ∷ (x.nexts ++ need_fields 0 x.needs))

abbrev pub end_field : List ℕ
end_field = field 0x7f []

-- a route's field with its positions behind it
abbrev pub chunk_fields : Chunk → List ℕ
chunk_fields c = route_field c.count ++ flat_map position_field c.positions

abbrev pub venue_file : List Resource → List ℕ
venue_file rs = header_field Venue ++ (flat_map resource_field rs ++ end_field)

-- routes of so many positions, and all positions
abbrev pub show_file : List ℕ → List Pos → List ℕ
show_file ns ps = header_field Show ++ (flat_map chunk_fields (chunks 0 ns ps) ++ end_field)
