-- A venue file is read exactly if it is the layout of valid resources.
use Rattle.std.proofs.Common.{◌≡◌, ℕ, ◌+◌, ◌/◌, ◌%◌, ◌<◌, ◌≤◌, Bool, true, false, cond, eqb, leb, ◌⊎◌, List, [], ◌∷◌, ◌++◌, length, sym, refl, ap, ◌∙◌, subst, inl, inr, ⊎_elim, append_assoc, append-nil, arith}
use Rattle.std.specs.List.{flat_map, AllByRecursion as All}
use Rattle.std.proofs.lemmas.List.{length_push}
use Rattle.std.proofs.lemmas.Bool.{eqb-true, eqb-false, eq-eqb, ne_eqb, leb-true, leb-false, le-leb, lt-leb, or_cases, and_parts, and_from, not_from_true}
use Rattle.std.proofs.lemmas.Nat.{div-add-mod'}
use Rattle.fields.specs.Bytes.{field_size, point_at}
use Rattle.fields.specs.Fields.{allowed, byte_of_kind}
use Rattle.fields.specs.declared.spot.File.TheVariants.{Venue}
use Rattle.fields.specs.declared.field.Turn.TheVariants.{Head, FirstResource, MoreResources}
use Rattle.tables.specs.Model.{Pos}
use Rattle.tables.specs.Valid.{every, byte, short, valid_resource, valid_venue}
use Rattle.tables.specs.declared.resource.Resource.{Resource}
use Rattle.layout.specs.Layout.{field, header_field, resource_field, end_field, venue_file}
use Rattle.layout.specs.Rules.{Moment, outset, inside, over, Context, turn_inside, resource_at, with_field}
use Rattle.layout.specs.Reading.{Standing, Reaches, Ends, venue_start}
use Rattle.layout.proofs.Lowest.{Unbroken}
use Rattle.layout.proofs.Paths.{stay, follow}
use Rattle.layout.proofs.Fronts.{Byte}
use Rattle.layout.proofs.Bodies.{resource-body, end_body}
use Rattle.layout.proofs.Calm.{body_rules}
use Rattle.layout.proofs.SoFar.{written, More, End, so_far}
use Rattle.layout.proofs.Wrote.{joined-push, every_append, not-over-outset, not-over-inside, wrote}

abbrev tables : Context → List ℕ
tables c = flat_map resource_field c.resources

abbrev Kept : Moment → Context → Type 0
Kept outset c = c.resources ≡ []
Kept inside c = (length c.resources ≤ 16) × (every valid_resource c.resources ≡ true)
Kept over c = (1 ≤ length c.resources) × (length c.resources ≤ 16) × (every valid_resource c.resources ≡ true)

begins : (c : Context) (b : List ℕ) → Kept outset c → (tables (with_field c 1 b) ≡ []) × Kept inside (with_field c 1 b)
begins c b k = (ap (flat_map resource_field) k, (omega (arith, ap length k), ap (every valid_resource) k))

may-come : (none : Bool) (t : ℕ) → allowed (cond none FirstResource MoreResources) t ≡ true → (t ≡ 0x10) ⊎ ((t ≡ 0x7f) × (none ≡ false))
may-come true t h = inl (eqb-true t 0x10 h)
may-come false t h = ⊎_elim (λ e. inl (eqb-true t 0x10 e)) (λ e. inr (eqb-true t 0x7f e, refl)) (or_cases (eqb t 0x10) (eqb t 0x7f) h)

a-resource : (c : Context) (b : List ℕ) → c.moment ≡ inside → Kept inside c → All Byte b → All Unbroken (body_rules Venue c 0x10 b) → More Venue tables Kept c (with_field c 0x10 b) 0x10 b
a-resource c b m k a u =
    let r = resource-body b a u.0 u.1.0 in
    let room = leb-false 16 (length c.resources) u.1.1.0 in
    record {
      moment = m;
      grown = joined-push resource_field c.resources (resource_at b) ∙ ap (λ x. tables c ++ field 0x10 x) r.0;
      kept = (omega (arith, length_push c.resources (resource_at b)), every_append valid_resource c.resources (resource_at b ∷ []) k.1 (and_from _ _ r.1 refl));
    }

an-end : (c : Context) (b : List ℕ) → Kept inside c → eqb (length c.resources) 0 ≡ false → All Unbroken (body_rules Venue c 0x7f b) → End Venue tables Kept c (with_field c 0x7f b) 0x7f b
an-end c b k n u =
    let some = eqb-false (length c.resources) 0 n in
    record { moment = refl; empty = ap (field 0x7f) (end_body b u.0); same = refl; kept = (omega arith, k.0, k.1) }

goes : (c : Context) (t : ℕ) (b : List ℕ) → c.moment ≡ inside → Kept inside c → allowed (turn_inside Venue c) t ≡ true → All Byte b → All Unbroken (body_rules Venue c t b) → More Venue tables Kept c (with_field c t b) t b ⊎ End Venue tables Kept c (with_field c t b) t b
goes c t b m k h a u = ⊎_elim
    (λ (e : t ≡ 0x10).
    subst (λ x. More Venue tables Kept c (with_field c x b) x b ⊎ End Venue tables Kept c (with_field c x b) x b) (sym e)
    (inl (a-resource c b m k a (subst (λ x. All Unbroken (body_rules Venue c x b)) e u))))
    (λ (e : (t ≡ 0x7f) × (eqb (length c.resources) 0 ≡ false)).
    subst (λ x. More Venue tables Kept c (with_field c x b) x b ⊎ End Venue tables Kept c (with_field c x b) x b) (sym e.0)
    (inr (an-end c b k e.1 (subst (λ x. All Unbroken (body_rules Venue c x b)) e.0 u))))
    (may-come (eqb (length c.resources) 0) t h)

-- what is accepted is the layout
pub venue-only : (bytes : List ℕ) (rs : List Resource) (ns : List ℕ) (ps : List Pos) → All Byte bytes → Ends (venue_start bytes) rs ns ps → (valid_venue rs ≡ true) × (bytes ≡ venue_file rs)
venue-only bytes rs ns ps a e =
    let s = so_far Venue tables Kept begins goes bytes (venue_start bytes) e.at e.reached (record { file = refl; whole = refl; small = a; kept = refl }) in
    let d = e.at.context in
    let k = subst (λ m. Kept m d) e.ended s.kept in
    let w : bytes ≡ (header_field Venue ++ (tables d ++ end_field)) ++ e.at.point.left
    = subst (λ m. bytes ≡ written Venue tables Kept m d ++ e.at.point.left) e.ended s.whole in (
      subst (λ x. valid_venue x ≡ true) e.resources (and_from _ _ (le-leb _ _ k.0) (and_from _ _ (le-leb _ _ k.1) k.2)),
      w ∙ ap (λ x. (header_field Venue ++ (tables d ++ end_field)) ++ x) e.none ∙ append-nil _ ∙ ap venue_file e.resources,
    )

-- and the layout is accepted
abbrev context : Moment → List Resource → Context
context m rs = record { moment = m; resources = rs; counts = []; positions = []; pending = 0 }

abbrev stand : Moment → List Resource → ℕ → List ℕ → Standing
stand m rs n left = record { context = context m rs; point = point_at Venue n left }

may-resource : (none : Bool) → allowed (cond none FirstResource MoreResources) 0x10 ≡ true
may-resource true = refl
may-resource false = refl

resource-tests : (done : List Resource) (r : Resource) → length done < 16 → valid_resource r ≡ true → All Unbroken (body_rules Venue (context inside done) 0x10 ((r.capacity / 256) ∷ (r.capacity % 256) ∷ r.order ∷ r.name))
resource-tests done r room v =
    let some = and_parts (leb 1 r.capacity) _ v in
    let narrow = and_parts (short r.capacity) _ some.1 in
    let order = and_parts (byte r.order) _ narrow.1 in
    let name = and_parts (eqb (length r.name) 8) (every byte r.name) order.1 in
    let long = eqb-true (length r.name) 8 name.0 in
    let least = leb-true 1 r.capacity some.0 in
    let back = div-add-mod' r.capacity 256 in (
      not_from_true _ (eq-eqb _ _ (omega arith)),
      (ne_eqb _ _ (λ z. omega (arith, back, z)), (lt-leb 16 (length done) room, (refl, (refl, (refl, tt))))),
    )

resources-there : (n : ℕ) (done todo : List Resource) (rest : List ℕ) → length done + length todo ≤ 16 → every valid_resource todo ≡ true → (m : ℕ) × Reaches (stand inside done n (flat_map resource_field todo ++ rest)) (stand inside (done ++ todo) m rest)
resources-there n done [] rest few v = (n, subst (λ x. Reaches (stand inside done n rest) (stand inside x n rest)) (sym (append-nil done)) (stay _))
resources-there n done (r ∷ todo) rest few v =
    let k = and_parts (valid_resource r) _ v in
    let left = flat_map resource_field todo ++ rest in
    let on = n + field_size (resource_field r ++ left) in
    let b = (r.capacity / 256) ∷ (r.capacity % 256) ∷ r.order ∷ r.name in
    let one = wrote Venue (context inside done) n 0x10 b left _ not-over-inside refl refl (may-resource (eqb (length done) 0)) (resource-tests done r (omega arith) k.0) in
    let same : resource_at b ≡ r = λ i. record { capacity = div-add-mod' r.capacity 256 i; order = r.order; name = r.name } in
    let more = resources-there on (done ++ r ∷ []) todo rest (omega (arith, length_push done r)) k.1 in (
      more.0,
      subst (λ x. Reaches (stand inside done n x) (stand inside (done ++ r ∷ todo) more.0 rest)) (sym (append_assoc (resource_field r) (flat_map resource_field todo) rest))
          (follow (subst (λ x. Reaches (stand inside done n (resource_field r ++ left)) (stand inside (done ++ x ∷ []) on left)) same one)
          (subst (λ x. Reaches (stand inside (done ++ r ∷ []) on left) (stand inside x more.0 rest)) (append_assoc done (r ∷ []) todo) more.1)),
    )

pub venue-there : (rs : List Resource) → valid_venue rs ≡ true → Ends (venue_start (venue_file rs)) rs [] []
venue-there rs v =
    let one = and_parts (leb 1 (length rs)) _ v in
    let few = and_parts (leb (length rs) 16) _ one.1 in
    let some = leb-true 1 (length rs) one.0 in
    let most = leb-true (length rs) 16 few.0 in
    let none : eqb (length rs) 0 ≡ false = ne_eqb (length rs) 0 (λ z. omega arith) in
    let body = flat_map resource_field rs ++ end_field in
    let head = wrote Venue (context outset []) 0 0x01 (byte_of_kind Venue ∷ 1 ∷ []) body Head not-over-outset refl refl refl (refl, (refl, (refl, (refl, (refl, (refl, tt)))))) in
    let middle = resources-there _ [] rs end_field (omega arith) few.1 in
    let may : allowed (turn_inside Venue (context inside rs)) 0x7f ≡ true = ap (λ x. allowed (cond x FirstResource MoreResources) 0x7f) none in
    let last = wrote Venue (context inside rs) middle.0 0x7f [] [] _ not-over-inside refl refl may (refl, (refl, (refl, (refl, (refl, (refl, tt)))))) in
    record {
      at = stand over rs (middle.0 + field_size (end_field ++ [])) [];
      reached = follow head (follow middle.1 last);
      ended = refl;
      none = refl;
      resources = refl;
      counts = refl;
      positions = refl;
    }
