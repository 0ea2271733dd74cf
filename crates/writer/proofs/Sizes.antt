-- How long the written parts are.
use Rattle.std.proofs.Common.{◌≡◌, ◌+◌, ◌*◌, true, eqb, leb, List, [], ◌∷◌, length, refl, arith, length-append}
use Rattle.std.specs.List.{flat_map}
use Rattle.std.proofs.lemmas.Bool.{and_parts, eqb-true}
use Rattle.tables.specs.declared.resource.Resource.{Resource}
use Rattle.tables.specs.Valid.{every, byte, short, valid_resource, valid_venue}
use Rattle.layout.specs.Layout.{resource_field, end_field, venue_file}

name-size : (r : Resource) → valid_resource r ≡ true → length r.name ≡ 8
name-size r v =
    let some = and_parts (leb 1 r.capacity) _ v in
    let narrow = and_parts (short r.capacity) _ some.1 in
    let order = and_parts (byte r.order) _ narrow.1 in
    eqb-true (length r.name) 8 (and_parts (eqb (length r.name) 8) (every byte r.name) order.1).0

resources-of : (rs : List Resource) → valid_venue rs ≡ true → every valid_resource rs ≡ true
resources-of rs v = (and_parts (leb (length rs) 16) _ (and_parts (leb 1 (length rs)) _ v).1).1

fields-size : (rs : List Resource) → every valid_resource rs ≡ true → length (flat_map resource_field rs) ≡ 14 * length rs
fields-size [] e = refl
fields-size (r ∷ rs) e =
    let k = and_parts (valid_resource r) _ e in
    let name = name-size r k.0 in
    let rest = fields-size rs k.1 in
    omega (arith, length-append r.name (flat_map resource_field rs))

pub venue-size : (rs : List Resource) → valid_venue rs ≡ true → length (venue_file rs) ≡ 8 + 14 * length rs
venue-size rs valid = omega (arith, fields-size rs (resources-of rs valid), length-append (flat_map resource_field rs) end_field)
