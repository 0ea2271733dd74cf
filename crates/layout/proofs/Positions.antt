-- A position's body, against the position that is read of it.
use Rattle.std.proofs.Common.{◌≡◌, ℕ, ◌+◌, ◌-◌, ◌%◌, ◌≤◌, true, false, not, ◌||◌, eqb, ltb, leb, List, [], ◌∷◌, ◌++◌, length, take, drop, refl, ap, ◌∙◌, arith, length-append, length-drop, length-take}
use Rattle.std.specs.List.{AllByRecursion as All}
use Rattle.std.proofs.lemmas.List.{take-append-drop, take_at, drop_at}
use Rattle.std.proofs.ByRecursion.{All-drop}
use Rattle.std.proofs.lemmas.Bool.{and_parts, and_from, or_parts, or_from, not-false, not_from_true, ltb-false, le-ltb, leb-true, le-leb, eqb-true, eq-eqb}
use Rattle.fields.specs.Fields.{next_count, next_bytes, need_bytes, ragged, rises}
use Rattle.tables.specs.Model.{Pos}
use Rattle.tables.specs.Valid.{nexts_ok, needs_fit, valid_position}
use Rattle.tables.specs.declared.resource.Resource.{Resource}
use Rattle.layout.specs.Layout.{need_fields}
use Rattle.layout.specs.Rules.{lacks, exceeds, row_of_needs, position_at}
use Rattle.layout.proofs.Fronts.{Byte}
use Rattle.layout.proofs.Needs.{named-from, named-tested, row_of, written}

abbrev pub position_body : Pos → List ℕ
position_body x = length x.nexts ∷ (x.nexts ++ need_fields 0 x.needs)

-- the tests of a position's body, over a venue and the bounds of the route
pub record Sound (rs : List Resource) (own last : ℕ) (b : List ℕ) : Type 0 where
  pub whole : ragged b ≡ false
  pub range : (ltb 4 (next_count b) || not (rises 0 (need_bytes b))) ≡ false
  pub ahead : not (nexts_ok own last (next_bytes b)) ≡ false
  pub there : lacks rs (need_bytes b) ≡ false
  pub enough : exceeds rs (need_bytes b) ≡ false

pub record Read (rs : List Resource) (own last : ℕ) (b : List ℕ) : Type 0 where
  pub back : position_body (position_at b) ≡ b
  pub valid : valid_position own last (position_at b) ≡ true
  pub fits : needs_fit rs 0 (position_at b).needs ≡ true

pub position-read : (rs : List Resource) (own last : ℕ) (b : List ℕ) → All Byte b → length rs ≤ 16 → Sound rs own last b → Read rs own last b
position-read rs own last [] a few s = let e = ltb-false 0 1 (or_parts (ltb 0 1) (not (eqb 0 0)) s.whole).0 in absurd (omega arith)
position-read rs own last (k ∷ rest) a few s =
    let w = or_parts (ltb (length (k ∷ rest)) (1 + k)) _ s.whole in
    let fits = ltb-false (length (k ∷ rest)) (1 + k) w.0 in
    let thirds = eqb-true ((length (k ∷ rest) - (1 + k)) % 3) 0 (not-false _ w.1) in
    let v = or_parts (ltb 4 k) _ s.range in
    let four = ltb-false 4 k v.0 in
    let raw = drop k rest in
    let size = length-drop k rest in
    let row = row_of rs 16 0 raw (named-from rs 0 raw (All-drop Byte k rest a.1) (omega arith) (not-false _ v.1) s.there s.enough) (omega arith) in
    let count : length (take k rest) ≡ k = length-take k rest ∙ omega arith in
    record {
      back = (λ i. count i ∷ (take k rest ++ row.back i)) ∙ ap (λ l. k ∷ l) (take-append-drop k rest);
      valid = and_from _ _ (le-leb _ _ (omega arith)) (and_from _ _ (not-false _ s.ahead) (and_from _ _ (eq-eqb _ _ row.long) row.shorts));
      fits = row.fits;
    }

pub position-written : (rs : List Resource) (own last : ℕ) (x : Pos) → valid_position own last x ≡ true → needs_fit rs 0 x.needs ≡ true → Sound rs own last (position_body x) × (position_at (position_body x) ≡ x)
position-written rs own last x v f =
    let four = and_parts (leb (length x.nexts) 4) _ v in
    let ahead = and_parts (nexts_ok own last x.nexts) _ four.1 in
    let long = and_parts (eqb (length x.needs) 16) _ ahead.1 in
    let raw = need_fields 0 x.needs in
    let w = written rs 0 x.needs f long.1 in
    let t = named-tested rs 0 raw w.named in
    let nexts : next_bytes (position_body x) ≡ x.nexts = take_at x.nexts raw (length x.nexts) refl in
    let needs : need_bytes (position_body x) ≡ raw = drop_at x.nexts raw (length x.nexts) refl in
    let size = length-append x.nexts raw in
    let thirds = t.thirds in
    let rest : length (position_body x) - (1 + length x.nexts) ≡ length raw = omega arith in (
      record {
        whole = or_from _ _ (le-ltb _ _ (omega arith)) (not_from_true _ (eq-eqb _ _ (ap (λ n. n % 3) rest ∙ thirds)));
        range = or_from _ _ (le-ltb _ _ (leb-true (length x.nexts) 4 four.0)) (not_from_true _ (ap (rises 0) needs ∙ t.rising));
        ahead = not_from_true _ (ap (nexts_ok own last) nexts ∙ ahead.0);
        there = ap (lacks rs) needs ∙ t.there;
        enough = ap (exceeds rs) needs ∙ t.enough;
      },
      λ i. record { nexts = nexts i; needs = (ap (row_of_needs 16 0) needs ∙ w.back 16 (eqb-true (length x.needs) 16 long.0)) i },
    )
