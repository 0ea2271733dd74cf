-- One turn of the loop over a venue's resources.
use Rattle.std.proofs.Common.{◌≡◌, ℕ, ◌+◌, ◌≤◌, Bool, true, false, cond, eqb, leb, List, [], ◌∷◌, ◌++◌, Some, None, Ok, vec_items, vec_len, vec_capacity, Vec, sym, ap, ◌∙◌, subst, arith}
use borrow.Author.Tests.{false-leb}
use Rattle.std.specs.declared.alloc.Global.{Global}
use Rattle.std.proofs.lemmas.List.{nil_from_length}
use Rattle.refusals.specs.declared.Refusal.TheVariants as refusal
use Rattle.fields.specs.Bytes.{tag, body, Point, point_at, past, spot_at}
use Rattle.fields.specs.Fields.{Part, resource, point_of, next_field}
use Rattle.fields.specs.declared.reader.FieldReader.{FieldReader}
use Rattle.fields.specs.declared.spot.File.TheVariants.{Venue}
use Rattle.fields.specs.declared.spot.Spot.{Spot}
use Rattle.fields.specs.declared.field.Turn.{Turn}
use Rattle.fields.specs.declared.field.Turn.TheVariants.{Head, FirstResource, MoreResources}
use Rattle.fields.specs.declared.faults.FieldFault.TheVariants.{TooMany}
use Rattle.faults.specs.declared.layers.FitFault.TheVariants.{Tables}
use Rattle.faults.specs.declared.layers.TableFault.TheVariants.{Fields}
use Rattle.tables.specs.declared.resource.Resource.{Resource}
use Rattle.layout.specs.Rules.{inside, turn_inside, resource_at}
use Rattle.layout.specs.Reading.{Standing, Reaches, FirstBad, venue_start}
use Rattle.layout.proofs.Lowest.{first_of}
use Rattle.layout.proofs.Wrote.{not-over-inside}
use Rattle.files.proofs.Next.{later_rules}
use Rattle.files.proofs.Standings.{Asked, read-part, tables-bad, passed, head-good}

abbrev stand : List Resource → Point → Standing
stand rs p = record { context = record { moment = inside; resources = rs; counts = []; positions = []; pending = 0 }; point = p }

-- where the loop stands
pub record Going (bytes : List ℕ) (r : FieldReader) (all : Vec Resource Global) : Type 0 where
  pub room : vec_len all ≤ 16
  pub space : 16 ≤ vec_capacity all
  pub file : r.file ≡ Venue
  pub reached : Reaches (venue_start bytes) (stand (vec_items all) (point_of r))

pub start : (bytes : List ℕ) (r r' : FieldReader) (all : Vec Resource Global) (x : Part) → point_of r ≡ point_at Venue 0 bytes → Ok x ≡ next_field Head (point_of r) → point_of r' ≡ past (point_of r) → vec_len all ≡ 0 → 16 ≤ vec_capacity all → Going bytes r' all
start bytes r r' all x is h on none space =
    let empty : vec_items all ≡ [] = nil_from_length (vec_items all) (sym all.ok.0 ∙ none) in
    record {
      room = omega arith;
      space = space;
      file = ap (λ q. q.file) on ∙ ap (λ q. q.file) is;
      reached = subst (λ rs. Reaches (venue_start bytes) (stand rs (point_of r'))) (sym empty) (head-good Venue [] bytes (point_of r) is x (sym h) (point_of r') on);
    }

module _ {bytes : List ℕ} {r : FieldReader} {all : Vec Resource Global} (g : Going bytes r all) where
  abbrev p : Point
  p = point_of r

  abbrev here : Standing
  here = stand (vec_items all) p

  abbrev b : List ℕ
  b = body p.left

  -- the reader asked for what may come
  pub ask : (turn : Turn) (count : ℕ) → turn ≡ cond (eqb count 0) FirstResource MoreResources → count ≡ vec_len all → Asked (venue_start bytes) here turn
  ask turn count asked counted =
      record {
        reached = g.reached;
        live = not-over-inside;
        is = ap (λ f. turn_inside f here.context) g.file ∙ ap (λ n. cond (eqb n 0) FirstResource MoreResources) (sym (counted ∙ all.ok.0)) ∙ sym asked;
      }

  -- a resource
  module _ {turn : Turn} (a : Asked (venue_start bytes) here turn) (x : Part) (h : Ok x ≡ next_field turn p) (cap order : ℕ) (name : List ℕ) (tagged : 0x10 ≡ tag p.left) (says : x ≡ resource cap order name) (k : ℕ) (had : k ≡ vec_len all) where
    first : (v : Bool) → v ≡ leb 16 k → first_of (later_rules here.context 0x10 b) ≡ cond v (Some refusal.TooMany) None
    first v e = ap (λ u. cond u (Some refusal.TooMany) None) (ap (leb 16) (sym (had ∙ all.ok.0)) ∙ sym e)

    pub full : (z : Spot) → true ≡ leb 16 k → z ≡ spot_at p → FirstBad (venue_start bytes) (Tables (Fields (TooMany z)))
    full z over' e = tables-bad a x (sym h) 0x10 tagged (Tables (Fields (TooMany z))) (first true over') e

    pub again : (r' : FieldReader) (all' : Vec Resource Global) → false ≡ leb 16 k → point_of r' ≡ past p → vec_len all' ≡ vec_len all + 1 → vec_capacity all' ≡ vec_capacity all → vec_items all' ≡ vec_items all ++ record { capacity = cap; order = order; name = name } ∷ [] → Going bytes r' all'
    again r' all' fits on len caps items =
        let part = sym says ∙ read-part a x (sym h) 0x10 tagged in
        let read : resource_at b ≡ record { capacity = cap; order = order; name = name } = cc in
        record {
          room = omega (arith, false-leb 16 k fits);
          space = omega (arith, caps, g.space);
          file = ap (λ q. q.file) on ∙ g.file;
          reached = subst (λ rs. Reaches (venue_start bytes) (stand rs (point_of r'))) (sym items)
              (subst (λ y. Reaches (venue_start bytes) (stand (vec_items all ++ y ∷ []) (point_of r'))) read
              (passed a x (sym h) 0x10 tagged (first false fits) (point_of r') on));
        }
