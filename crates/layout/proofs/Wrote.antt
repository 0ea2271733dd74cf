-- A written field is read and passed.
use Rattle.std.proofs.Common.{◌≡◌, ℕ, ◌+◌, Bool, true, List, [], ◌∷◌, ◌++◌, sym, refl, subst, arith}
use Rattle.std.specs.List.{flat_map, AllByRecursion as All}
use Rattle.std.proofs.lemmas.List.{flat_map_more}
use Rattle.std.proofs.lemmas.Bool.{and_parts, and_from}
use Rattle.fields.specs.Bytes.{field_size, point_at}
use Rattle.fields.specs.Fields.{familiar, allowed}
use Rattle.fields.specs.declared.spot.File.{File}
use Rattle.fields.specs.declared.field.Turn.{Turn}
use Rattle.tables.specs.Valid.{every}
use Rattle.layout.specs.Layout.{field}
use Rattle.layout.specs.Rules.{outset, inside, over, Context, rules, field_rules, with_field}
use Rattle.layout.specs.Reading.{Reaches}
use Rattle.layout.proofs.Lowest.{Unbroken, passes}
use Rattle.layout.proofs.Calm.{body_rules, calm-written, onward-written}

pub joined-push : {X : Type 0} (f : X → List ℕ) (xs : List X) (x : X) → flat_map f (xs ++ x ∷ []) ≡ flat_map f xs ++ f x
joined-push f xs x = sym (flat_map_more f [] xs x)

pub every_append : {X : Type 0} (p : X → Bool) (xs ys : List X) → every p xs ≡ true → every p ys ≡ true → every p (xs ++ ys) ≡ true
every_append p [] ys a b = b
every_append p (x ∷ xs) ys a b = let k = and_parts (p x) _ a in and_from _ _ k.0 (every_append p xs ys k.1 b)

pub every-parts : {X : Type 0} (p : X → Bool) (xs ys : List X) → every p (xs ++ ys) ≡ true → (every p xs ≡ true) × (every p ys ≡ true)
every-parts p [] ys a = (refl, a)
every-parts p (x ∷ xs) ys a =
    let k = and_parts (p x) _ a in
    let m = every-parts p xs ys k.1 in
    (and_from _ _ k.0 m.0, m.1)

pub not-over-outset : outset ≡ over → ⊥
not-over-outset e = let z : ◌≡◌ {A = ℕ} 0 1 = cc in omega arith

pub not-over-inside : inside ≡ over → ⊥
not-over-inside e = let z : ◌≡◌ {A = ℕ} 0 1 = cc in omega arith

pub wrote : (f : File) (c : Context) (n t : ℕ) (b rest : List ℕ) (turn : Turn) → (c.moment ≡ over → ⊥) → rules c (point_at f n (field t b ++ rest)) ≡ field_rules turn c (point_at f n (field t b ++ rest)) → familiar t ≡ true → allowed turn t ≡ true → All Unbroken (body_rules f c t b) → Reaches (record { context = c; point = point_at f n (field t b ++ rest) }) (record { context = with_field c t b; point = point_at f (n + field_size (field t b ++ rest)) rest })
wrote f c n t b rest turn o e k m u = (
  1,
  ((o, passes _ (subst (All Unbroken) (sym e) (calm-written f c n t b rest turn k m u))), onward-written f c n t b rest),
)
