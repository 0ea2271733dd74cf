-- The point of a file behind a field that was cut off.
use Rattle.std.proofs.Common.{◌≡◌, ℕ, ◌+◌, Bool, true, false, cond, List, drop, Ok, Err, Result, sym, ap, ◌∙◌, arith}
use Rattle.std.proofs.lemmas.List.{drop-drop}
use Rattle.fields.specs.declared.faults.ByteFault.{ByteFault}
use Rattle.fields.specs.declared.faults.ByteFault.TheVariants.{HeadCut, BodyCut}
use Rattle.fields.specs.declared.reader.FieldReader.{FieldReader}
use Rattle.fields.specs.declared.spot.Spot.{Spot}
use Rattle.fields.specs.Bytes.{tag, body, head_cut, body_cut, field_size, point_at, past, cut_off, Piece, piece}
use Rattle.fields.specs.Fields.{point_of}

cut-tag : (a b : Bool) (s : Spot) (t u : ℕ) (x y : List ℕ) → ◌≡◌ {A = Result Piece ByteFault} (cond a (Err (HeadCut s)) (cond b (Err (BodyCut s)) (Ok (piece t x)))) (Ok (piece u y)) → u ≡ t
cut-tag true b s t u x y e = let z : ◌≡◌ {A = ℕ} 0 1 = cc in absurd (omega arith)
cut-tag false true s t u x y e = let z : ◌≡◌ {A = ℕ} 0 1 = cc in absurd (omega arith)
cut-tag false false s t u x y e = cc

-- the tag that was cut off
pub piece-tag : (s : Spot) (left : List ℕ) (u : ℕ) (y : List ℕ) → cut_off s left ≡ Ok (piece u y) → u ≡ tag left
piece-tag s left u y e = cut-tag (head_cut left) (body_cut left) s (tag left) u (body left) y e

-- the reader moved by the field's length
pub past_is : (r : FieldReader) (n : ℕ) → n ≡ field_size (drop r.place r.bytes.now) → point_at r.file (r.place + n) (drop (r.place + n) r.bytes.now) ≡ past (point_of r)
past_is r n e =
    ap (λ k. point_at r.file (r.place + k) (drop (r.place + k) r.bytes.now)) e
    ∙ ap (point_at r.file (r.place + field_size (drop r.place r.bytes.now))) (sym (drop-drop (field_size (drop r.place r.bytes.now)) r.place r.bytes.now))
