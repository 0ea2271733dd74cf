-- What a read field, or a fault, says of the standing at which the reader was.
use Rattle.std.proofs.Common.{◌≡◌, ℕ, List, [], ◌∷◌, length, Some, None, Ok, Err, Option, Result, sym, refl, ap, ◌∙◌, subst, arith}
use Rattle.std.proofs.lemmas.Bool.{eqb-true, ne_eqb, not_from_false}
use Rattle.refusals.specs.declared.Refusal.{Refusal}
use Rattle.fields.specs.Bytes.{tag, body, Point, point_at, past, spot_at}
use Rattle.fields.specs.Fields.{Part, part_at, next_field, finished, closed}
use Rattle.fields.specs.declared.spot.File.{File}
use Rattle.fields.specs.declared.spot.Spot.{Spot}
use Rattle.fields.specs.declared.field.Turn.{Turn}
use Rattle.fields.specs.declared.field.Turn.TheVariants.{Head}
use Rattle.fields.specs.declared.faults.ByteFault.TheVariants.{AfterEnd}
use Rattle.fields.specs.declared.faults.FieldFault.{FieldFault}
use Rattle.fields.specs.declared.faults.FieldFault.TheVariants.{Bytes}
use Rattle.faults.specs.Faults.{refusal_of, spot_of}
use Rattle.faults.specs.declared.layers.FitFault.{FitFault}
use Rattle.faults.specs.declared.layers.FitFault.TheVariants.{Tables}
use Rattle.faults.specs.declared.layers.TableFault.{TableFault}
use Rattle.faults.specs.declared.layers.TableFault.TheVariants.{Fields, WrongNext}
use Rattle.tables.specs.declared.resource.Resource.{Resource}
use Rattle.layout.specs.Rules.{Moment, outset, inside, over, Context, turn_at, field_rules, rules_at, with_field}
use Rattle.layout.specs.Reading.{Applies, Lowest, Standing, rules_here, Fine, Reaches, FirstBad, Ends, fresh}
use Rattle.layout.proofs.Lowest.{first_of, first-lowest, passes}
use Rattle.layout.proofs.Paths.{stay, advance, bad-later}
use Rattle.layout.proofs.Wrote.{not-over-outset}
use Rattle.files.specs.Steps.{carried_as}
use Rattle.files.proofs.Next.{later_rules, next-part, next-may, next-bad, later-bad, later-none}

rules-are : (m : Moment) (c : Context) (p : Point) → (m ≡ over → ⊥) → rules_at m c p ≡ field_rules (turn_at m p.file c) c p
rules-are outset c p o = refl
rules-are inside c p o = refl
rules-are over c p o = absurd (o refl)

-- the reader stands at `here`, reached from s, and asks for a field of those that may come
pub record Asked (s here : Standing) (turn : Turn) : Type 0 where
  pub reached : Reaches s here
  pub live : here.context.moment ≡ over → ⊥
  pub is : turn_at here.context.moment here.point.file here.context ≡ turn

module _ {s here : Standing} {turn : Turn} (a : Asked s here turn) where
  abbrev c : Context
  c = here.context

  abbrev p : Point
  p = here.point

  abbrev b : List ℕ
  b = body p.left

  same : rules_here here ≡ field_rules turn c p
  same = rules-are c.moment c p a.live ∙ ap (λ t. field_rules t c p) a.is

  bad-at : (f : FitFault) → Lowest (refusal_of f) (field_rules turn c p) → spot_of f ≡ spot_at p → FirstBad s f
  bad-at f l e = record { at = here; reached = a.reached; lowest = subst (Lowest (refusal_of f)) (sym same) l; spot = e }

  pub read-bad : (e : FieldFault) → next_field turn p ≡ Err e → FirstBad s (Tables (Fields e))
  read-bad e h = let w = next-bad turn c p e h in bad-at (Tables (Fields e)) w.0 w.1

  -- a field of tag t is read
  module _ (x : Part) (h : next_field turn p ≡ Ok x) (t : ℕ) (tagged : t ≡ tag p.left) where
    pub read-part : x ≡ part_at t b
    read-part = next-part turn c p x h ∙ ap (λ u. part_at u b) (sym tagged)

    told : (o : Option Refusal) → first_of (later_rules c t b) ≡ o → first_of (later_rules c (tag p.left) b) ≡ o
    told o = subst (λ u. first_of (later_rules c u b) ≡ o) tagged

    pub tables-bad : (f : FitFault) → first_of (later_rules c t b) ≡ Some (refusal_of f) → spot_of f ≡ spot_at p → FirstBad s f
    tables-bad f e = bad-at f (later-bad turn c p x h (refusal_of f) (told _ e))

    pub passed : first_of (later_rules c t b) ≡ None → (q : Point) → q ≡ past p → Reaches s (record { context = with_field c t b; point = q })
    passed e q on =
        let fine : Fine here = (a.live, subst (λ rs. (r : Refusal) → Applies r rs → ⊥) (sym same) (passes (field_rules turn c p) (later-none turn c p x h (told None e)))) in
        subst (λ y. Reaches s (record { context = with_field c t b; point = y })) (sym on)
        (subst (λ u. Reaches s (record { context = with_field c u b; point = past p })) (sym tagged) (advance a.reached fine))

-- behind the end
ends : (s : Spot) (left : List ℕ) (u : Unit {0}) → closed (finished s left) ≡ Ok u → left ≡ []
ends s [] u h = refl
ends s (x ∷ left) u h = let z : ◌≡◌ {A = ℕ} 0 1 = cc in absurd (omega arith)

after-end : (s : Spot) (left : List ℕ) (e : FieldFault) → closed (finished s left) ≡ Err e → (Bytes (AfterEnd s) ≡ e) × (length left ≡ 0 → ⊥)
after-end s [] e h = let z : ◌≡◌ {A = ℕ} 0 1 = cc in absurd (omega arith)
after-end s (x ∷ left) e h = (cc, λ z. omega arith)

not-ended : (s : Standing) → s.context.moment ≡ over → (e : FieldFault) → closed (finished (spot_at s.point) s.point.left) ≡ Err e → FirstBad s (Tables (Fields e))
not-ended s m e h =
    let a = after-end (spot_at s.point) s.point.left e h in
    let more = not_from_false _ (ne_eqb (length s.point.left) 0 a.1) in
    subst (λ f. FirstBad s (Tables (Fields f))) a.0
    (record {
      at = s;
      reached = stay s;
      lowest = subst (λ w. Lowest (refusal_of (Tables (Fields (Bytes (AfterEnd (spot_at s.point)))))) (rules_at w s.context s.point)) (sym m)
          (first-lowest 0 (rules_at over s.context s.point) (omega arith) _ (simp more));
      spot = refl;
    })

-- the header, of either file
module _ (f : File) (rs : List Resource) (bytes : List ℕ) where
  abbrev begin : Standing
  begin = record { context = fresh rs; point = point_at f 0 bytes }

  ask : Asked begin begin Head
  ask = record { reached = stay begin; live = not-over-outset; is = refl }

  module _ (p : Point) (is : p ≡ point_at f 0 bytes) where
    pub head-bad : (e : FieldFault) → next_field Head p ≡ Err e → FirstBad begin (Tables (Fields e))
    head-bad e h = read-bad ask e (ap (next_field Head) (sym is) ∙ h)

    pub head-good : (x : Part) → next_field Head p ≡ Ok x → (q : Point) → q ≡ past p → Reaches begin (record { context = with_field (fresh rs) 1 []; point = q })
    head-good x h q on =
        let found : next_field Head (point_at f 0 bytes) ≡ Ok x = ap (next_field Head) (sym is) ∙ h in
        passed ask x found 1 (sym (eqb-true (tag bytes) 1 (next-may Head (fresh rs) (point_at f 0 bytes) x found))) refl q (on ∙ ap past is)

-- the end field, of either file
module _ {s here : Standing} {turn : Turn} (a : Asked s here turn) (x : Part) (h : next_field turn here.point ≡ Ok x) (tagged : 0x7f ≡ tag here.point.left) (q : Point) (on : q ≡ past here.point) where
  abbrev last : Standing
  last = record { context = with_field here.context 0x7f []; point = q }

  reach : Reaches s last
  reach = passed a x h 0x7f tagged refl q on

  pub end-good : (u : Unit {0}) → closed (finished (spot_at q) q.left) ≡ Ok u → Ends s here.context.resources here.context.counts here.context.positions
  end-good u k =
      record { at = last; reached = reach; ended = refl; none = ends (spot_at q) q.left u k; resources = refl; counts = refl; positions = refl }

  pub end-bad : (e : FieldFault) → closed (finished (spot_at q) q.left) ≡ Err e → FirstBad s (Tables (Fields e))
  end-bad e k = bad-later reach (not-ended last refl e k)

-- the tables' layer carries a fault of the fields
pub carried : {X : Type 0} (s : Standing) (o : Result X FieldFault) → ((e : FieldFault) → o ≡ Err e → FirstBad s (Tables (Fields e))) → (e : TableFault) → carried_as e o → FirstBad s (Tables e)
carried s o k (Fields e) h = k e h
carried s o k (WrongNext z) h = absurd h
