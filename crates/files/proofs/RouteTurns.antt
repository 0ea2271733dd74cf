-- One turn of the loop over a route's positions.
use Rattle.std.proofs.Common.{◌≡◌, ℕ, ◌+◌, ◌-◌, ◌<◌, List, [], ◌∷◌, ◌++◌, map, length, Ok, Err, vec_items, vec_len, vec_capacity, Result, Vec, sym, ap, ◌∙◌, subst, arith}
use lib.ListN.{length-map}
use Rattle.std.specs.declared.alloc.Global.{Global}
use Rattle.std.proofs.lemmas.List.{map_push}
use Rattle.fields.specs.Bytes.{Point, past, spot_at}
use Rattle.fields.specs.Fields.{point_of, next_field}
use Rattle.fields.specs.declared.reader.FieldReader.{FieldReader}
use Rattle.fields.specs.declared.spot.File.TheVariants.{Show}
use Rattle.fields.specs.declared.field.Turn.TheVariants.{InRoute}
use Rattle.faults.specs.declared.layers.FitFault.{FitFault}
use Rattle.tables.specs.declared.resource.Resource.{Resource}
use Rattle.tables.specs.declared.position.Position.{Position}
use Rattle.tables.specs.Model.{Pos, pos_of, positions_of}
use Rattle.layout.specs.Reading.{Standing, Reaches, FirstBad}
use Rattle.layout.proofs.Paths.{follow, bad-later}
use Rattle.files.specs.Steps.{named, placed, show_at}
use Rattle.files.proofs.PositionTurns.{position-bad, position-good}

-- where the loop stands, begun at s: `own` positions are there
pub record Going (rs : List Resource) (s : List ℕ → Standing) (last own cap : ℕ) (r : FieldReader) (all : Vec Position Global) : Type 0 where
  pub count : vec_len all ≡ own
  pub space : vec_capacity all ≡ cap
  pub file : r.file ≡ Show
  pub reached : (ns : List ℕ) → Reaches (s ns) (show_at rs ns (positions_of (vec_items all)) (last - own) (point_of r))

module _ {rs : List Resource} {s : List ℕ → Standing} {last own cap : ℕ} {r : FieldReader} {all : Vec Position Global} (g : Going rs s last own cap r all) (lt : own < last) where
  abbrev p : Point
  p = point_of r

  abbrev ps : List Pos
  ps = positions_of (vec_items all)

  here : own ≡ length ps
  here = sym g.count ∙ all.ok.0 ∙ sym (length-map (vec_items all) pos_of)

  abbrev outcome : ℕ → ℕ → Result Pos FitFault
  outcome n m = placed rs (spot_at p) (named n m (spot_at p) (next_field InRoute p))

  same : outcome own last ≡ outcome (length ps) (length ps + (last - own))
  same = λ i. outcome (here i) (end i) where
    end : last ≡ length ps + (last - own)
    end = omega (arith, here)

  pub fault : (f : FitFault) → Err f ≡ outcome own last → (ns : List ℕ) → FirstBad (s ns) f
  fault f e ns = bad-later (g.reached ns) (position-bad rs ns ps (last - own) p (omega arith) g.file f (e ∙ same))

  pub again : (x : Position) (r' : FieldReader) (all' : Vec Position Global) → Ok (pos_of x) ≡ outcome own last → point_of r' ≡ past p → vec_len all' ≡ vec_len all + 1 → vec_capacity all' ≡ vec_capacity all → vec_items all' ≡ vec_items all ++ x ∷ [] → Going rs s last (own + 1) cap r' all'
  again x r' all' e on len caps items =
      let fewer : last - own - 1 ≡ last - (own + 1) = omega arith in
      let more : ps ++ pos_of x ∷ [] ≡ positions_of (vec_items all') = sym (ap (map pos_of) items ∙ map_push pos_of (vec_items all) x) in
      record {
        count = len ∙ ap (λ n. n + 1) g.count;
        space = caps ∙ g.space;
        file = ap (λ q. q.file) on ∙ g.file;
        reached = λ ns.
            follow (g.reached ns)
            (subst (λ q. Reaches (show_at rs ns ps (last - own) p) (show_at rs ns (positions_of (vec_items all')) (last - (own + 1)) q)) (sym on)
            (subst (λ n. Reaches (show_at rs ns ps (last - own) p) (show_at rs ns (positions_of (vec_items all')) n (past p))) fewer
            (subst (λ l. Reaches (show_at rs ns ps (last - own) p) (show_at rs ns l (last - own - 1) (past p))) more
            (position-good rs ns ps (last - own) p (omega arith) g.file (pos_of x) (e ∙ same)))));
      }

pub through : {rs : List Resource} {s : List ℕ → Standing} {last own cap : ℕ} {r : FieldReader} {all : Vec Position Global} → Going rs s last own cap r all → last - own ≡ 0 → (ns : List ℕ) → Reaches (s ns) (show_at rs ns (positions_of (vec_items all)) 0 (point_of r))
through {rs} {s} {last} {own} {cap} {r} {all} g none ns =
    subst (λ o. Reaches (s ns) (show_at rs ns (positions_of (vec_items all)) o (point_of r))) none (g.reached ns)
