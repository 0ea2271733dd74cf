-- What reading one position says of where the reader stands.
use Rattle.std.proofs.Common.{◌≡◌, ℕ, ◌+◌, ◌-◌, ◌≤◌, Bool, true, false, cond, not, eqb, List, [], ◌∷◌, ◌++◌, length, Some, None, Ok, Err, Option, Result, sym, refl, ap, ◌∙◌, subst, arith}
use Rattle.std.proofs.lemmas.Bool.{eqb-true, ne_eqb}
use Rattle.refusals.specs.declared.Refusal.{Refusal}
use Rattle.refusals.specs.declared.Refusal.TheVariants as refusal
use Rattle.fields.specs.Bytes.{tag, body, Point, past, spot_at}
use Rattle.fields.specs.Fields.{Part, next_bytes, need_bytes, next_field}
use Rattle.fields.specs.declared.spot.File.TheVariants.{Show}
use Rattle.fields.specs.declared.spot.Spot.{Spot}
use Rattle.fields.specs.declared.field.Turn.TheVariants.{FirstRoute, MoreRoutes, InRoute}
use Rattle.fields.specs.declared.faults.FieldFault.{FieldFault}
use Rattle.faults.specs.Faults.{refusal_of, spot_of}
use Rattle.faults.specs.declared.layers.FitFault.{FitFault}
use Rattle.faults.specs.declared.layers.FitFault.TheVariants.{Tables, NotInVenue, AboveCapacity}
use Rattle.faults.specs.declared.layers.TableFault.TheVariants.{Fields, WrongNext}
use Rattle.tables.specs.declared.resource.Resource.{Resource}
use Rattle.tables.specs.Model.{Pos}
use Rattle.tables.specs.Valid.{nexts_ok}
use Rattle.layout.specs.Rules.{Context, Rule, rule, lacks, exceeds, turn_inside, position_at}
use Rattle.layout.specs.Reading.{Standing, Reaches, FirstBad}
use Rattle.layout.proofs.Paths.{stay}
use Rattle.layout.proofs.Lowest.{first_of}
use Rattle.layout.proofs.Wrote.{not-over-inside}
use Rattle.files.specs.Steps.{Named, named, placed, show_at}
use Rattle.files.proofs.Next.{later_rules, next-may}
use Rattle.files.proofs.Standings.{Asked, read-bad, read-part, tables-bad, passed}

-- what the last three tests give, in their order: next positions, resources, amounts
abbrev three : (ahead lacking above : Bool) → Spot → Pos → Result Pos FitFault
three ahead lacking above s x = cond ahead (cond lacking (Err (NotInVenue s)) (cond above (Err (AboveCapacity s)) (Ok x))) (Err (Tables (WrongNext s)))

abbrev three_rules : (ahead lacking above : Bool) → List Rule
three_rules ahead lacking above =
    rule refusal.TooMany false ∷ rule refusal.WrongNext (not ahead) ∷ rule refusal.NotInVenue lacking ∷ rule refusal.AboveCapacity above ∷ []

abbrev refusal_in : Result Pos FitFault → Option Refusal
refusal_in (Ok x) = None
refusal_in (Err f) = Some (refusal_of f)

abbrev spot_in : Spot → Result Pos FitFault → Spot
spot_in s (Ok x) = s
spot_in s (Err f) = spot_of f

abbrev pos_in : Pos → Result Pos FitFault → Pos
pos_in x (Ok y) = y
pos_in x (Err f) = x

three-told : (ahead lacking above : Bool) (s : Spot) (x : Pos) → (first_of (three_rules ahead lacking above) ≡ refusal_in (three ahead lacking above s x)) × (spot_in s (three ahead lacking above s x) ≡ s) × (pos_in x (three ahead lacking above s x) ≡ x)
three-told false lacking above s x = (refl, refl, refl)
three-told true true above s x = (refl, refl, refl)
three-told true false true s x = (refl, refl, refl)
three-told true false false s x = (refl, refl, refl)

is-three : (ahead : Bool) (rs : List Resource) (s : Spot) (n : Named) (x : Pos) → placed rs s (Ok n) ≡ three true (lacks rs n.needs) (exceeds rs n.needs) s x → placed rs s (cond ahead (Ok n) (Err (WrongNext s))) ≡ three ahead (lacks rs n.needs) (exceeds rs n.needs) s x
is-three true rs s n x h = h
is-three false rs s n x h = refl

-- where a position has to come
module _ (rs : List Resource) (ns : List ℕ) (ps : List Pos) (o : ℕ) (p : Point) (busy : 1 ≤ o) (file : p.file ≡ Show) where
  abbrev here : Standing
  here = show_at rs ns ps o p

  abbrev c : Context
  c = here.context

  abbrev b : List ℕ
  b = body p.left

  abbrev own : ℕ
  own = length ps

  abbrev outcome : Result Part FieldFault → Result Pos FitFault
  outcome x = placed rs (spot_at p) (named own (own + o) (spot_at p) x)

  ask : Asked here here InRoute
  ask =
      record {
        reached = stay here;
        live = not-over-inside;
        is = ap (λ f. turn_inside f c) file ∙ ap (λ z. cond z (cond (eqb (length ns) 0) FirstRoute MoreRoutes) InRoute) (ne_eqb o 0 (λ z. omega arith));
      }

  module _ (x : Part) (h : next_field InRoute p ≡ Ok x) where
    tagged : 0x21 ≡ tag p.left
    tagged = sym (eqb-true (tag p.left) 0x21 (next-may InRoute c p x h))

    abbrev judged : Result Pos FitFault
    judged = three (nexts_ok own (own + o) (next_bytes b)) (lacks rs (need_bytes b)) (exceeds rs (need_bytes b)) (spot_at p) (position_at b)

    come-out : outcome (Ok x) ≡ judged
    come-out = ap (λ y. outcome (Ok y)) (read-part ask x h 0x21 tagged) ∙ is-three (nexts_ok own (own + o) (next_bytes b)) rs (spot_at p) _ (position_at b) refl

    told : (first_of (later_rules c 0x21 b) ≡ refusal_in judged) × (spot_in (spot_at p) judged ≡ spot_at p) × (pos_in (position_at b) judged ≡ position_at b)
    told = three-told (nexts_ok own (own + o) (next_bytes b)) (lacks rs (need_bytes b)) (exceeds rs (need_bytes b)) (spot_at p) (position_at b)

    first : (y : Result Pos FitFault) → outcome (Ok x) ≡ y → first_of (later_rules c 0x21 b) ≡ refusal_in y
    first y e = told.0 ∙ ap refusal_in (sym come-out ∙ e)

    bad-one : (f : FitFault) → outcome (Ok x) ≡ Err f → FirstBad here f
    bad-one f e = tables-bad ask x h 0x21 tagged f (first (Err f) e) (sym (ap (spot_in (spot_at p)) (sym come-out ∙ e)) ∙ told.1)

    good-one : (y : Pos) → outcome (Ok x) ≡ Ok y → Reaches here (show_at rs ns (ps ++ y ∷ []) (o - 1) (past p))
    good-one y e =
        let read : position_at b ≡ y = sym told.2 ∙ ap (pos_in (position_at b)) (sym come-out ∙ e) in
        subst (λ z. Reaches here (show_at rs ns (ps ++ z ∷ []) (o - 1) (past p))) read (passed ask x h 0x21 tagged (first (Ok y) e) (past p) refl)

  bad-by : (r : Result Part FieldFault) → next_field InRoute p ≡ r → (f : FitFault) → outcome r ≡ Err f → FirstBad here f
  bad-by (Ok x) h f e = bad-one x h f e
  bad-by (Err g) h f e = let is' : Tables (Fields g) ≡ f = cc in subst (FirstBad here) is' (read-bad ask g h)

  good-by : (r : Result Part FieldFault) → next_field InRoute p ≡ r → (y : Pos) → outcome r ≡ Ok y → Reaches here (show_at rs ns (ps ++ y ∷ []) (o - 1) (past p))
  good-by (Ok x) h y e = good-one x h y e
  good-by (Err g) h y e = let z : ◌≡◌ {A = ℕ} 0 1 = cc in absurd (omega arith)

  pub position-bad : (f : FitFault) → Err f ≡ outcome (next_field InRoute p) → FirstBad here f
  position-bad f e = bad-by (next_field InRoute p) refl f (sym e)

  pub position-good : (y : Pos) → Ok y ≡ outcome (next_field InRoute p) → Reaches here (show_at rs ns (ps ++ y ∷ []) (o - 1) (past p))
  position-good y e = good-by (next_field InRoute p) refl y (sym e)
