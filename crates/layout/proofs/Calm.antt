-- A field that no refusal applies to: what stands there, and that one which is written so is such a field.
use Rattle.std.proofs.Common.{◌≡◌, ℕ, ◌+◌, true, List, [], ◌∷◌, ◌++◌, drop, sym, subst}
use Rattle.std.specs.List.{AllByRecursion as All}
use Rattle.std.proofs.ByRecursion.{All-drop}
use Rattle.std.proofs.lemmas.Bool.{not-false, not_from_true}
use Rattle.refusals.specs.declared.Refusal.TheVariants.{WrongLength, OutOfRange, TooMany, WrongNext, NotInVenue, AboveCapacity}
use Rattle.fields.specs.Bytes.{tag, body, field_size, Point, point_at}
use Rattle.fields.specs.Fields.{familiar, allowed, wrong_length, out_of_range}
use Rattle.fields.specs.declared.spot.File.{File}
use Rattle.fields.specs.declared.field.Turn.{Turn}
use Rattle.layout.specs.Layout.{field}
use Rattle.layout.specs.Rules.{Context, Rule, rule, too_many, wrong_next, not_in_venue, above_capacity, field_rules, with_field}
use Rattle.layout.specs.Reading.{onward}
use Rattle.layout.proofs.Lowest.{Unbroken}
use Rattle.layout.proofs.Fronts.{Byte, body_back, rest_back, head-there, body-there, front-field, body_bytes}

-- the rules of a body under its tag
abbrev pub body_rules : File → Context → ℕ → List ℕ → List Rule
body_rules f c t b =
    rule WrongLength (wrong_length t b)
    ∷ rule OutOfRange (out_of_range f t b)
    ∷ rule TooMany (too_many c t b)
    ∷ rule WrongNext (wrong_next c t b)
    ∷ rule NotInVenue (not_in_venue c t b)
    ∷ rule AboveCapacity (above_capacity c t b)
    ∷ []

pub record Whole (turn : Turn) (c : Context) (p : Point) : Type 0 where
  pub front : p.left ≡ field (tag p.left) (body p.left) ++ drop (field_size p.left) p.left
  pub bytes : All Byte (body p.left)
  pub rest : All Byte (drop (field_size p.left) p.left)
  pub may : allowed turn (tag p.left) ≡ true
  pub tests : All Unbroken (body_rules p.file c (tag p.left) (body p.left))

pub calm-whole : (turn : Turn) (c : Context) (p : Point) → All Byte p.left → All Unbroken (field_rules turn c p) → Whole turn c p
calm-whole turn c p a u =
    record {
      front = front-field p.left a u.0 u.1.0;
      bytes = body_bytes p.left a;
      rest = All-drop Byte (field_size p.left) p.left a;
      may = not-false (allowed turn (tag p.left)) u.1.1.1.0;
      tests = u.1.1.1.1;
    }

module _ (f : File) (c : Context) (n t : ℕ) (b rest : List ℕ) where
  pub calm-written : (turn : Turn) → familiar t ≡ true → allowed turn t ≡ true → All Unbroken (body_rules f c t b) → All Unbroken (field_rules turn c (point_at f n (field t b ++ rest)))
  calm-written turn k m u = (
    head-there t b rest,
    (body-there t b rest, (not_from_true (familiar t) k, (not_from_true (allowed turn t) m, subst (λ x. All Unbroken (body_rules f c t x)) (sym (body_back t b rest)) u))),
  )

  pub onward-written : onward (record { context = c; point = point_at f n (field t b ++ rest) }) ≡ record { context = with_field c t b; point = point_at f (n + field_size (field t b ++ rest)) rest }
  onward-written =
      λ i. record { context = with_field c t (body_back t b rest i); point = point_at f (n + field_size (field t b ++ rest)) (rest_back t b rest i) }
