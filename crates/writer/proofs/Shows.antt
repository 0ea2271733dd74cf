-- A show's fields, route by route.
use Rattle.std.proofs.Common.{◌≡◌, ℕ, ◌+◌, ◌*◌, ◌<◌, ◌≤◌, true, eqb, leb, List, [], ◌∷◌, ◌++◌, length, get_or, take, drop, vec_items, sum, sym, ap, ◌∙◌, append_assoc, append-nil, le_of_eq, arith, length-append, length-drop, length-take}
use lib.ListN.{length-map}
use Rattle.std.specs.List.{flat_map}
use Rattle.std.proofs.lemmas.List.{nil_from_length, take-append-drop, take-map, drop-map, drop_more, drop_all}
use Rattle.std.proofs.lemmas.List.Folds.{flat_map-map}
use Rattle.std.proofs.lemmas.Grind.{flat_map-append}
use Rattle.std.proofs.lemmas.Bool.{and_parts, eqb-true, leb-true}
use Rattle.tables.specs.declared.position.Position.{Position}
use Rattle.tables.specs.declared.route.Route.{Route}
use Rattle.tables.specs.declared.show.Show.{Show}
use Rattle.tables.specs.Model.{Pos, Chunk, chunks, pos_of, counts_of, positions_of}
use Rattle.tables.specs.Valid.{every, nexts_ok, short, valid_position, valid_positions, valid_chunk}
use Rattle.layout.specs.Layout.{need_fields, route_field, position_field, end_field, chunk_fields, show_file}
use Rattle.layout.proofs.Chunks.{total}
use Rattle.writer.specs.declared.cursor.Cursor.{Cursor}
use Rattle.writer.specs.Puts.{Appends}
use Rattle.writer.proofs.Joins.{appends_then, appends-as}
use Rattle.writer.proofs.Needs.{needs-most}

-- the fields of positions, as they stand in a table
pub laid : (ps : List Position) → flat_map (λ x. position_field (pos_of x)) ps ≡ flat_map position_field (positions_of ps)
laid ps = sym (flat_map-map position_field pos_of ps)

small-positions : (own last : ℕ) (xs : List Pos) → valid_positions own last xs ≡ true → length (flat_map position_field xs) ≤ 56 * length xs
small-positions own last [] v = omega arith
small-positions own last (x ∷ xs) v =
    let k = and_parts (valid_position own last x) _ v in
    let four = and_parts (leb (length x.nexts) 4) _ k.0 in
    let ahead = and_parts (nexts_ok own last x.nexts) _ four.1 in
    let long = eqb-true (length x.needs) 16 (and_parts (eqb (length x.needs) 16) (every short x.needs) ahead.1).0 in
    omega (
      arith,
      leb-true (length x.nexts) 4 four.0,
      needs-most x.needs (le_of_eq long),
      length-append x.nexts (need_fields 0 x.needs),
      length-append (position_field x) (flat_map position_field xs),
      small-positions (own + 1) last xs k.1,
    )

-- how many positions are left when a route's are taken
left_over : (n : ℕ) (ns : List ℕ) (ps : List Pos) → sum (n ∷ ns) ≡ length ps → sum ns ≡ length (drop n ps)
left_over n ns ps e = omega (arith, e, total n ns, length-drop n ps)

split-size : (n : ℕ) (ps : List Pos) → length (flat_map position_field ps) ≡ length (flat_map position_field (take n ps)) + length (flat_map position_field (drop n ps))
split-size n ps =
    ap (λ l. length (flat_map position_field l)) (sym (take-append-drop n ps))
    ∙ ap length (flat_map-append position_field (take n ps) (drop n ps))
    ∙ length-append (flat_map position_field (take n ps)) (flat_map position_field (drop n ps))

small-chunks : (f : ℕ) (ns : List ℕ) (ps : List Pos) → sum ns ≡ length ps → every valid_chunk (chunks f ns ps) ≡ true → length (flat_map position_field ps) ≤ 56 * length ps
small-chunks f [] ps e v = let none = ap (λ l. length (flat_map position_field l)) (nil_from_length ps (sym e)) in omega arith
small-chunks f (n ∷ ns) ps e v =
    let k = and_parts (valid_chunk (record { first = f; count = n; positions = take n ps })) _ v in
    let mine = small-positions f (f + n) (take n ps) (and_parts (leb 1 n) _ k.0).1 in
    omega (arith, e, total n ns, mine, small-chunks (f + n) ns (drop n ps) (left_over n ns ps e) k.1, split-size n ps, length-take n ps, length-drop n ps)

chunks_size : (f : ℕ) (ns : List ℕ) (ps : List Pos) → sum ns ≡ length ps → length (flat_map chunk_fields (chunks f ns ps)) ≡ 5 * length ns + length (flat_map position_field ps)
chunks_size f [] ps e = let none = ap (λ l. length (flat_map position_field l)) (nil_from_length ps (sym e)) in omega arith
chunks_size f (n ∷ ns) ps e =
    let rest = chunks_size (f + n) ns (drop n ps) (left_over n ns ps e) in
    let parts = split-size n ps in
    let c : Chunk = record { first = f; count = n; positions = take n ps } in
    omega (arith, length-append (chunk_fields c) (flat_map chunk_fields (chunks (f + n) ns (drop n ps))), length-append (route_field n) (flat_map position_field (take n ps)))

-- all the routes of a show with their positions
abbrev pub whole_of : Show → List ℕ
whole_of s = flat_map chunk_fields (chunks 0 (counts_of (vec_items s.routes)) (positions_of (vec_items s.positions)))

abbrev pub file_of : Show → List ℕ
file_of s = show_file (counts_of (vec_items s.routes)) (positions_of (vec_items s.positions))

-- how many there are in a valid show, and how long its file is
pub record Sized (s : Show) : Type 0 where
  pub sums : sum (counts_of (vec_items s.routes)) ≡ length (positions_of (vec_items s.positions))
  pub few : length (vec_items s.routes) ≤ 16
  pub small : length (flat_map position_field (positions_of (vec_items s.positions))) ≤ 7168
  pub size : length (file_of s) ≡ 8 + 5 * length (vec_items s.routes) + length (flat_map position_field (positions_of (vec_items s.positions)))

pub sized : (s : Show) → Sized s
sized s =
    let rs = vec_items s.routes in
    let ns = counts_of rs in
    let ps = positions_of (vec_items s.positions) in
    let one = and_parts (leb 1 (length ns)) _ s.valid in
    let few = and_parts (leb (length ns) 16) _ one.1 in
    let all = and_parts (eqb (sum ns) (length ps)) _ few.1 in
    let most = and_parts (leb (length ps) 128) _ all.1 in
    let sums = eqb-true (sum ns) (length ps) all.0 in
    let routes = length-map rs (λ r. r.count) in
    record {
      sums = sums;
      few = omega (arith, leb-true (length ns) 16 few.0, routes);
      small = omega (arith, leb-true (length ps) 128 most.0, small-chunks 0 ns ps sums most.1);
      size = omega (arith, length-append (whole_of s) end_field, chunks_size 0 ns ps sums, routes);
    }

-- where the loop over the routes stands
pub record Going (whole : List ℕ) (routes : List Route) (j : ℕ) (left : List Position) (start here : Cursor) : Type 0 where
  pub done : List ℕ
  pub first : ℕ
  pub puts : Appends done start here
  pub rest : done ++ flat_map chunk_fields (chunks first (counts_of (drop j routes)) (positions_of left)) ≡ whole
  pub sums : sum (counts_of (drop j routes)) ≡ length left

pub begun : (s : Show) (routes : List Route) (left : List Position) (x : Cursor) → routes ≡ vec_items s.routes → left ≡ vec_items s.positions → Appends [] x x → Going (whole_of s) routes 0 left x x
begun s routes left x same-routes same none =
    record {
      done = [];
      first = 0;
      puts = none;
      rest = λ i. flat_map chunk_fields (chunks 0 (counts_of (same-routes i)) (positions_of (same i)));
      sums = ap (λ l. sum (counts_of l)) same-routes ∙ (sized s).sums ∙ length-map (vec_items s.positions) pos_of ∙ ap length (sym same);
    }

module _ {whole : List ℕ} {routes : List Route} {j : ℕ} {left : List Position} {start here : Cursor} (g : Going whole routes j left start here) (lt : j < length routes) where
  abbrev n : ℕ
  n = (get_or routes j (record { first = 0; count = 0 })).count

  abbrev ns : List ℕ
  ns = counts_of (drop (j + 1) routes)

  abbrev ps : List Pos
  ps = positions_of left

  counts : counts_of (drop j routes) ≡ n ∷ ns
  counts = ap counts_of (drop_more routes j (record { first = 0; count = 0 }) lt)

  sums : sum (n ∷ ns) ≡ length left
  sums = ap sum (sym counts) ∙ g.sums

  pub enough : n ≤ length left
  enough = omega (arith, sums, total n ns)

  -- this route's fields
  abbrev mine : List ℕ
  mine = route_field n ++ flat_map position_field (take n ps)

  parts : (g.done ++ mine) ++ flat_map chunk_fields (chunks (g.first + n) ns (drop n ps)) ≡ whole
  parts = append_assoc g.done mine (flat_map chunk_fields (chunks (g.first + n) ns (drop n ps))) ∙ ap (λ l. g.done ++ flat_map chunk_fields (chunks g.first l ps)) (sym counts) ∙ g.rest

  pub room : length g.done + (5 + length (flat_map position_field (take n ps))) ≤ length whole
  room =
      let e = sym (ap length parts) ∙ length-append (g.done ++ mine) (flat_map chunk_fields (chunks (g.first + n) ns (drop n ps))) in
      let d = length-append g.done mine in
      let m = length-append (route_field n) (flat_map position_field (take n ps)) in
      omega arith

  module _ (front back : List Position) (is : front ≡ take n left) (was : back ≡ drop n left) where
    gone : drop n ps ≡ positions_of back
    gone = drop-map pos_of n left ∙ ap positions_of (sym was)

    taken : flat_map (λ x. position_field (pos_of x)) front ≡ flat_map position_field (take n ps)
    taken = laid front ∙ ap (flat_map position_field) (ap positions_of is ∙ sym (take-map pos_of n left))

    pub room-front : length (g.done ++ route_field n) + length (flat_map (λ x. position_field (pos_of x)) front) ≤ length whole
    room-front = omega (arith, room, length-append g.done (route_field n), ap length taken)

    pub again : (x y : Cursor) → Appends (route_field n) here x → Appends (flat_map (λ x. position_field (pos_of x)) front) x y → Going whole routes (j + 1) back start y
    again x y p q =
        record {
          done = g.done ++ mine;
          first = g.first + n;
          puts = appends_then g.puts (appends_then p (appends-as taken q));
          rest = ap (λ l. (g.done ++ mine) ++ flat_map chunk_fields (chunks (g.first + n) ns l)) (sym gone) ∙ parts;
          sums = left_over n ns ps (sums ∙ sym (length-map left pos_of)) ∙ ap length gone ∙ length-map back pos_of;
        }

-- the last route is written
pub through : {whole : List ℕ} {routes : List Route} {j : ℕ} {left : List Position} {start here : Cursor} (g : Going whole routes j left start here) → length routes ≤ j → Appends whole start here
through {whole} {routes} {j} {left} {start} {here} g le =
    let none = drop_all j routes le in
    let all : g.done ≡ whole = sym (append-nil g.done) ∙ ap (λ l. g.done ++ flat_map chunk_fields (chunks g.first (counts_of l) (positions_of left))) (sym none) ∙ g.rest in
    appends-as all g.puts
