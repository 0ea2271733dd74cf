-- What the reader's next field has to do with the rules.
use Rattle.std.proofs.Common.{◌≡◌, ℕ, Bool, true, false, cond, not, List, [], ◌∷◌, Some, None, Ok, Err, Option, Result, sym, refl, ap, ◌∙◌, subst, arith}
use Rattle.std.specs.List.{AllByRecursion as All}
use Rattle.std.proofs.lemmas.Bool.{not-false}
use Rattle.refusals.specs.declared.Refusal.{Refusal}
use Rattle.refusals.specs.declared.Refusal.TheVariants as refusal
use Rattle.fields.specs.Bytes.{tag, body, head_cut, body_cut, Point, spot_at, piece}
use Rattle.fields.specs.Fields.{Part, familiar, allowed, wrong_length, out_of_range, part_at, field_of, read_piece, next_field}
use Rattle.fields.specs.declared.spot.Spot.{Spot}
use Rattle.fields.specs.declared.field.Turn.{Turn}
use Rattle.fields.specs.declared.faults.ByteFault.TheVariants.{HeadCut, BodyCut}
use Rattle.fields.specs.declared.faults.FieldFault.{FieldFault}
use Rattle.fields.specs.declared.faults.FieldFault.TheVariants.{Bytes, UnfamiliarTag, OutOfTurn, WrongLength, OutOfRange}
use Rattle.faults.specs.Faults.{refusal_of, spot_of}
use Rattle.faults.specs.declared.layers.FitFault.TheVariants.{Tables}
use Rattle.faults.specs.declared.layers.TableFault.TheVariants.{Fields}
use Rattle.layout.specs.Rules.{Context, Rule, rule, too_many, wrong_next, not_in_venue, above_capacity, field_rules}
use Rattle.layout.specs.Reading.{Lowest}
use Rattle.layout.proofs.Lowest.{Unbroken, first_of, Rising, first-lowest, first-none}

flat : (h k : Bool) (s : Spot) (turn : Turn) (t : ℕ) (b : List ℕ) → read_piece s turn (cond h (Err (HeadCut s)) (cond k (Err (BodyCut s)) (Ok (piece t b)))) ≡ cond h (Err (Bytes (HeadCut s))) (cond k (Err (Bytes (BodyCut s))) (field_of s turn t b))
flat true k s turn t b = refl
flat false true s turn t b = refl
flat false false s turn t b = refl

-- what the first six tests give, in their order
abbrev six : (h k u o w r : Bool) → Spot → Part → Result Part FieldFault
six h k u o w r s x =
    cond h (Err (Bytes (HeadCut s)))
    (cond k (Err (Bytes (BodyCut s)))
    (cond u (Err (UnfamiliarTag s)) (cond o (Err (OutOfTurn s)) (cond w (Err (WrongLength s)) (cond r (Err (OutOfRange s)) (Ok x))))))

abbrev six_rules : (h k u o w r : Bool) → List Rule → List Rule
six_rules h k u o w r rest =
    rule refusal.HeadCut h
    ∷ rule refusal.BodyCut k
    ∷ rule refusal.UnfamiliarTag u
    ∷ rule refusal.OutOfTurn o
    ∷ rule refusal.WrongLength w
    ∷ rule refusal.OutOfRange r
    ∷ rest

-- the refusal of a fault, else what the rest of the rules gives
abbrev pub refusal_in : Option Refusal → Result Part FieldFault → Option Refusal
refusal_in d (Ok x) = d
refusal_in d (Err e) = Some (refusal_of (Tables (Fields e)))

abbrev spot_in : Spot → Result Part FieldFault → Spot
spot_in s (Ok x) = s
spot_in s (Err e) = spot_of (Tables (Fields e))

abbrev part_in : Part → Result Part FieldFault → Part
part_in x (Ok y) = y
part_in x (Err e) = x

abbrev MayIn : Bool → Result Part FieldFault → Type 0
MayIn o (Ok y) = o ≡ false
MayIn o (Err e) = Unit {0}

six-told : (h k u o w r : Bool) (s : Spot) (x : Part) (rest : List Rule) → (first_of (six_rules h k u o w r rest) ≡ refusal_in (first_of rest) (six h k u o w r s x)) × (spot_in s (six h k u o w r s x) ≡ s) × (part_in x (six h k u o w r s x) ≡ x) × MayIn o (six h k u o w r s x)
six-told true k u o w r s x rest = (refl, refl, refl, tt)
six-told false true u o w r s x rest = (refl, refl, refl, tt)
six-told false false true o w r s x rest = (refl, refl, refl, tt)
six-told false false false true w r s x rest = (refl, refl, refl, tt)
six-told false false false false true r s x rest = (refl, refl, refl, tt)
six-told false false false false false true s x rest = (refl, refl, refl, tt)
six-told false false false false false false s x rest = (refl, refl, refl, refl)

-- the rules that the reader of fields leaves to the tables
abbrev pub later_rules : Context → ℕ → List ℕ → List Rule
later_rules c t b =
    rule refusal.TooMany (too_many c t b)
    ∷ rule refusal.WrongNext (wrong_next c t b)
    ∷ rule refusal.NotInVenue (not_in_venue c t b)
    ∷ rule refusal.AboveCapacity (above_capacity c t b)
    ∷ []

module _ (turn : Turn) (c : Context) (p : Point) where
  abbrev t : ℕ
  t = tag p.left

  abbrev b : List ℕ
  b = body p.left

  abbrev found : Result Part FieldFault
  found = six (head_cut p.left) (body_cut p.left) (not (familiar t)) (not (allowed turn t)) (wrong_length t b) (out_of_range p.file t b) (spot_at p) (part_at t b)

  is-six : next_field turn p ≡ found
  is-six = flat (head_cut p.left) (body_cut p.left) (spot_at p) turn t b

  told : (first_of (field_rules turn c p) ≡ refusal_in (first_of (later_rules c t b)) found) × (spot_in (spot_at p) found ≡ spot_at p) × (part_in (part_at t b) found ≡ part_at t b) × MayIn (not (allowed turn t)) found
  told = six-told (head_cut p.left) (body_cut p.left) (not (familiar t)) (not (allowed turn t)) (wrong_length t b) (out_of_range p.file t b) (spot_at p) (part_at t b) (later_rules c t b)

  rising : Rising 0 (field_rules turn c p)
  rising = omega arith

  -- a fault of the reader is that of the lowest rule
  pub next-bad : (e : FieldFault) → next_field turn p ≡ Err e → Lowest (refusal_of (Tables (Fields e))) (field_rules turn c p) × (spot_of (Tables (Fields e)) ≡ spot_at p)
  next-bad e h =
      let is : found ≡ Err e = sym is-six ∙ h in (
        first-lowest 0 (field_rules turn c p) rising (refusal_of (Tables (Fields e))) (told.0 ∙ ap (refusal_in (first_of (later_rules c t b))) is),
        sym (ap (spot_in (spot_at p)) is) ∙ told.1,
      )

  module _ (x : Part) (h : next_field turn p ≡ Ok x) where
    is : found ≡ Ok x
    is = sym is-six ∙ h

    pub next-part : x ≡ part_at t b
    next-part = sym (ap (part_in (part_at t b)) is) ∙ told.2

    pub next-may : allowed turn t ≡ true
    next-may = not-false (allowed turn t) (subst (MayIn (not (allowed turn t))) is told.3)

    -- a field that was read is judged by the rules that are left
    next-first : first_of (field_rules turn c p) ≡ first_of (later_rules c t b)
    next-first = told.0 ∙ ap (refusal_in (first_of (later_rules c t b))) is

    pub later-bad : (r : Refusal) → first_of (later_rules c t b) ≡ Some r → Lowest r (field_rules turn c p)
    later-bad r e = first-lowest 0 (field_rules turn c p) rising r (next-first ∙ e)

    pub later-none : first_of (later_rules c t b) ≡ None → All Unbroken (field_rules turn c p)
    later-none e = first-none (field_rules turn c p) (next-first ∙ e)
