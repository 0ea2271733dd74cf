-- One turn of the loop over a show's routes.
use Rattle.std.proofs.Common.{◌≡◌, ℕ, ◌+◌, ◌-◌, ◌≤◌, Bool, true, false, cond, ◌||◌, eqb, ltb, leb, List, [], ◌∷◌, ◌++◌, length, Some, None, Ok, vec_items, vec_len, vec_capacity, sum, Vec, sym, ap, ◌∙◌, subst, arith}
use lib.ListN.{length-map}
use Rattle.std.specs.declared.alloc.Global.{Global}
use Rattle.std.proofs.lemmas.List.{nil_from_length, map_push}
use Rattle.std.proofs.lemmas.List.Sums.{sum_by_push, sum_by-cons}
use Rattle.std.proofs.lemmas.Bool.{leb-false, ltb-false, or_parts}
use Rattle.refusals.specs.declared.Refusal.TheVariants as refusal
use Rattle.fields.specs.Bytes.{tag, body, Point, point_at, past, spot_at}
use Rattle.fields.specs.Fields.{Part, route, front, point_of, next_field}
use Rattle.fields.specs.declared.reader.FieldReader.{FieldReader}
use Rattle.fields.specs.declared.spot.File.TheVariants.{Show}
use Rattle.fields.specs.declared.spot.Spot.{Spot}
use Rattle.fields.specs.declared.field.Turn.{Turn}
use Rattle.fields.specs.declared.field.Turn.TheVariants.{Head, FirstRoute, MoreRoutes}
use Rattle.fields.specs.declared.faults.FieldFault.TheVariants.{TooMany}
use Rattle.faults.specs.declared.layers.FitFault.{FitFault}
use Rattle.faults.specs.declared.layers.FitFault.TheVariants.{Tables}
use Rattle.faults.specs.declared.layers.TableFault.TheVariants.{Fields}
use Rattle.tables.specs.declared.resource.Resource.{Resource}
use Rattle.tables.specs.declared.route.Route.{Route}
use Rattle.tables.specs.declared.position.Position.{Position}
use Rattle.tables.specs.Model.{Pos, pos_of, counts_of, firsts_of, positions_of, starts}
use Rattle.layout.specs.Rules.{turn_inside}
use Rattle.layout.specs.Reading.{Standing, Reaches, FirstBad, show_start}
use Rattle.layout.proofs.Paths.{follow, bad-later}
use Rattle.layout.proofs.Lowest.{first_of}
use Rattle.layout.proofs.Wrote.{not-over-inside}
use Rattle.files.specs.Steps.{show_at}
use Rattle.files.proofs.Next.{later_rules}
use Rattle.files.proofs.Standings.{Asked, read-part, tables-bad, passed, head-good}

-- where the loop stands
pub record Going (rs : List Resource) (bytes : List ℕ) (r : FieldReader) (routes : Vec Route Global) (all : Vec Position Global) : Type 0 where
  pub room : vec_len routes ≤ 16
  pub most : vec_len all ≤ 128
  pub space : 16 ≤ vec_capacity routes
  pub spaces : 128 ≤ vec_capacity all
  pub file : r.file ≡ Show
  pub total : sum (counts_of (vec_items routes)) ≡ vec_len all
  pub firsts : firsts_of (vec_items routes) ≡ starts 0 (counts_of (vec_items routes))
  pub reached : Reaches (show_start rs bytes) (show_at rs (counts_of (vec_items routes)) (positions_of (vec_items all)) 0 (point_of r))

-- the next route begins where the others end
starts-push : (f : ℕ) (ns : List ℕ) (n : ℕ) → starts f (ns ++ n ∷ []) ≡ starts f ns ++ (f + sum ns) ∷ []
starts-push f [] n = let e : f ≡ f + 0 = omega arith in ap (λ a. a ∷ []) e
starts-push f (m ∷ ns) n =
    let e : f + m + sum ns ≡ f + sum (m ∷ ns) = omega (arith, sum_by-cons (λ x. x) m ns) in
    ap (λ l. f ∷ l) (starts-push (f + m) ns n ∙ ap (λ a. starts (f + m) ns ++ a ∷ []) e)

pub start : (rs : List Resource) (bytes : List ℕ) (r r' : FieldReader) (routes : Vec Route Global) (all : Vec Position Global) (x : Part) → point_of r ≡ point_at Show 0 bytes → next_field Head (point_of r) ≡ Ok x → point_of r' ≡ past (point_of r) → vec_len routes ≡ 0 → vec_len all ≡ 0 → 16 ≤ vec_capacity routes → 128 ≤ vec_capacity all → Going rs bytes r' routes all
start rs bytes r r' routes all x is h on none nobody space spaces =
    let empty : vec_items routes ≡ [] = nil_from_length (vec_items routes) (sym routes.ok.0 ∙ none) in
    let bare : vec_items all ≡ [] = nil_from_length (vec_items all) (sym all.ok.0 ∙ nobody) in
    record {
      room = omega arith;
      most = omega arith;
      space = space;
      spaces = spaces;
      file = ap (λ q. q.file) on ∙ ap (λ q. q.file) is;
      total = ap (λ l. sum (counts_of l)) empty ∙ sym nobody;
      firsts = ap firsts_of empty ∙ ap (λ l. starts 0 (counts_of l)) (sym empty);
      reached = subst (λ l. Reaches (show_start rs bytes) (show_at rs (counts_of l) (positions_of (vec_items all)) 0 (point_of r'))) (sym empty)
          (subst (λ l. Reaches (show_start rs bytes) (show_at rs [] (positions_of l) 0 (point_of r'))) (sym bare)
          (head-good Show rs bytes (point_of r) is x h (point_of r') on));
    }

module _ {rs : List Resource} {bytes : List ℕ} {r : FieldReader} {routes : Vec Route Global} {all : Vec Position Global} (g : Going rs bytes r routes all) where
  abbrev p : Point
  p = point_of r

  abbrev ns : List ℕ
  ns = counts_of (vec_items routes)

  abbrev ps : List Pos
  ps = positions_of (vec_items all)

  abbrev here : Standing
  here = show_at rs ns ps 0 p

  abbrev b : List ℕ
  b = body p.left

  many : length ns ≡ vec_len routes
  many = length-map (vec_items routes) (λ r. r.count) ∙ sym routes.ok.0

  long : length ps ≡ vec_len all
  long = length-map (vec_items all) pos_of ∙ sym all.ok.0

  pub ask : (turn : Turn) (count : ℕ) → turn ≡ cond (eqb count 0) FirstRoute MoreRoutes → count ≡ vec_len routes → Asked (show_start rs bytes) here turn
  ask turn count asked counted =
      record {
        reached = g.reached;
        live = not-over-inside;
        is = ap (λ f. turn_inside f here.context) g.file ∙ ap (λ n. cond (eqb n 0) FirstRoute MoreRoutes) (many ∙ sym counted) ∙ sym asked;
      }

  -- a route of n positions, after m routes and f positions
  module _ {turn : Turn} (a : Asked (show_start rs bytes) here turn) (x : Part) (h : next_field turn p ≡ Ok x) (n : ℕ) (tagged : 0x20 ≡ tag p.left) (says : x ≡ route n) (m f : ℕ) (had : m ≡ vec_len routes) (is-first : f ≡ vec_len all) where
    read : front b ≡ n
    read = let e : route n ≡ route (front b) = sym says ∙ read-part a x h 0x20 tagged in cc

    -- too many routes or positions, or room for this one
    first : (v : Bool) → v ≡ (leb 16 m || ltb 128 (f + n)) → first_of (later_rules here.context 0x20 b) ≡ cond v (Some refusal.TooMany) None
    first v e = ap (λ u. cond u (Some refusal.TooMany) None) ((λ i. leb 16 ((many ∙ sym had) i) || ltb 128 ((long ∙ sym is-first) i + read i)) ∙ sym e)

    pub full : (z : Spot) → true ≡ (leb 16 m || ltb 128 (f + n)) → z ≡ spot_at p → FirstBad (show_start rs bytes) (Tables (Fields (TooMany z)))
    full z over' e = tables-bad a x h 0x20 tagged (Tables (Fields (TooMany z))) (first true over') e

    module _ (fits : false ≡ (leb 16 m || ltb 128 (f + n))) (r' : FieldReader) (on : point_of r' ≡ past p) (routes' : Vec Route Global) (len : vec_len routes' ≡ vec_len routes + 1) (caps : vec_capacity routes' ≡ vec_capacity routes) (items : vec_items routes' ≡ vec_items routes ++ record { first = f; count = n } ∷ []) where
      abbrev ns' : List ℕ
      ns' = counts_of (vec_items routes')

      more : ns ++ n ∷ [] ≡ ns'
      more = sym (ap counts_of items ∙ map_push (λ r. r.count) (vec_items routes) (record { first = f; count = n }))

      -- the route's own field is read
      begun : Reaches (show_start rs bytes) (show_at rs ns' ps (f + n - vec_len all) (point_of r'))
      begun =
          let pending : n ≡ f + n - vec_len all = omega arith in
          subst (λ o. Reaches (show_start rs bytes) (show_at rs ns' ps o (point_of r'))) pending
          (subst (λ l. Reaches (show_start rs bytes) (show_at rs l ps n (point_of r'))) more
          (subst (λ k. Reaches (show_start rs bytes) (show_at rs (ns ++ k ∷ []) ps k (point_of r'))) read
          (passed a x h 0x20 tagged (first false fits) (point_of r') on)))

      pub broke : (e : FitFault) → FirstBad (show_at rs ns' ps (f + n - vec_len all) (point_of r')) e → FirstBad (show_start rs bytes) e
      broke e k = bad-later begun k

      pub again : (r'' : FieldReader) (all' : Vec Position Global) → Reaches (show_at rs ns' ps (f + n - vec_len all) (point_of r')) (show_at rs ns' (positions_of (vec_items all')) 0 (point_of r'')) → vec_len all' ≡ f + n → vec_capacity all' ≡ vec_capacity all → r''.file ≡ Show → Going rs bytes r'' routes' all'
      again r'' all' k len' caps' file' =
          let free = or_parts (leb 16 m) (ltb 128 (f + n)) (sym fits) in
          let sums : sum ns' ≡ sum ns + n = ap sum (sym more) ∙ sum_by_push (λ x. x) ns n in
          record {
            room = omega (arith, leb-false 16 m free.0);
            most = omega (arith, ltb-false 128 (f + n) free.1);
            space = omega (arith, caps, g.space);
            spaces = omega (arith, caps', g.spaces);
            file = file';
            total = sums ∙ ap (λ a. a + n) (g.total ∙ sym is-first) ∙ sym len';
            firsts = ap firsts_of items
                ∙ map_push (λ r. r.first) (vec_items routes) (record { first = f; count = n })
                ∙ (λ i. g.firsts i ++ (is-first ∙ sym g.total ∙ add_none) i ∷ [])
                ∙ sym (starts-push 0 ns n)
                ∙ ap (starts 0) more;
            reached = follow begun k;
          } where
            add_none : sum ns ≡ 0 + sum ns
            add_none = omega arith
