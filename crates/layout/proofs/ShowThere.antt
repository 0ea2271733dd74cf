-- The layout of a valid show that fits the venue is accepted, and read as that show.
use Rattle.std.proofs.Common.{◌≡◌, ℕ, ◌+◌, ◌-◌, ◌/◌, ◌%◌, ◌<◌, ◌≤◌, Bool, true, false, cond, eqb, leb, List, [], ◌∷◌, ◌++◌, length, take, drop, sum, sym, refl, ap, ◌∙◌, subst, append_assoc, append-nil, arith, length-append, length-drop, length-take}
use Rattle.std.specs.List.{flat_map}
use Rattle.std.proofs.lemmas.List.{length_push, nil_from_length, take-append-drop}
use Rattle.std.proofs.lemmas.Bool.{eqb-true, ne_eqb, leb-true, lt-leb, le-ltb, or_from, and_parts}
use Rattle.std.proofs.lemmas.Nat.{div-add-mod'}
use Rattle.fields.specs.Bytes.{field_size, point_at}
use Rattle.fields.specs.Fields.{allowed, byte_of_kind, front}
use Rattle.fields.specs.declared.spot.File.TheVariants.{Show}
use Rattle.fields.specs.declared.field.Turn.TheVariants.{Head, FirstRoute, MoreRoutes, InRoute}
use Rattle.tables.specs.Model.{Pos, Chunk, chunks}
use Rattle.tables.specs.Valid.{every, valid_position, valid_positions, valid_chunk, valid_show, needs_fit, fits_venue}
use Rattle.tables.specs.declared.resource.Resource.{Resource}
use Rattle.layout.specs.Layout.{header_field, route_field, position_field, end_field, chunk_fields, show_file}
use Rattle.layout.specs.Rules.{Moment, outset, inside, over, Context, turn_inside}
use Rattle.layout.specs.Reading.{Standing, Reaches, Ends, show_start}
use Rattle.layout.proofs.Paths.{stay, follow}
use Rattle.layout.proofs.Positions.{position_body, position-written}
use Rattle.layout.proofs.Chunks.{total}
use Rattle.layout.proofs.Wrote.{every-parts, not-over-outset, not-over-inside, wrote}

may-route : (none : Bool) → allowed (cond none FirstRoute MoreRoutes) 0x20 ≡ true
may-route true = refl
may-route false = refl

module _ (rs : List Resource) where
  abbrev context : Moment → List ℕ → List Pos → ℕ → Context
  context m ns ps o = record { moment = m; resources = rs; counts = ns; positions = ps; pending = o }

  abbrev stand : Moment → List ℕ → List Pos → ℕ → ℕ → List ℕ → Standing
  stand m ns ps o n left = record { context = context m ns ps o; point = point_at Show n left }

  positions-there : (n : ℕ) (ns : List ℕ) (qs xs : List Pos) (rest : List ℕ) → valid_positions (length qs) (length qs + length xs) xs ≡ true → fits_venue rs xs ≡ true → (m : ℕ) × Reaches (stand inside ns qs (length xs) n (flat_map position_field xs ++ rest)) (stand inside ns (qs ++ xs) 0 m rest)
  positions-there n ns qs [] rest v f = (n, subst (λ x. Reaches (stand inside ns qs 0 n rest) (stand inside ns x 0 n rest)) (sym (append-nil qs)) (stay _))
  positions-there n ns qs (x ∷ xs) rest v f =
      let o = length (x ∷ xs) in
      let k = and_parts (valid_position (length qs) (length qs + o) x) _ v in
      let g = and_parts (needs_fit rs 0 x.needs) _ f in
      let b = position_body x in
      let p = position-written rs (length qs) (length qs + o) x k.0 g.0 in
      let s = p.0 in
      let left = flat_map position_field xs ++ rest in
      let on = n + field_size (position_field x ++ left) in
      let busy : eqb o 0 ≡ false = ne_eqb o 0 (λ z. omega arith) in
      let may : allowed (turn_inside Show (context inside ns qs o)) 0x21 ≡ true
      = ap (λ y. allowed (cond y (cond (eqb (length ns) 0) FirstRoute MoreRoutes) InRoute) 0x21) busy in
      let one = wrote Show (context inside ns qs o) n 0x21 b left _ not-over-inside refl refl may (s.whole, (s.range, (refl, (s.ahead, (s.there, (s.enough, tt)))))) in
      let fewer : o - 1 ≡ length xs = omega arith in
      let step : Reaches (stand inside ns qs o n (position_field x ++ left)) (stand inside ns (qs ++ x ∷ []) (length xs) on left)
      = subst (λ y. Reaches (stand inside ns qs o n (position_field x ++ left)) (stand inside ns (qs ++ x ∷ []) y on left)) fewer
      (subst (λ y. Reaches (stand inside ns qs o n (position_field x ++ left)) (stand inside ns (qs ++ y ∷ []) (o - 1) on left)) p.1 one) in
      let here : length qs + 1 ≡ length (qs ++ x ∷ []) = sym (length_push qs x) in
      let end : length qs + o ≡ length (qs ++ x ∷ []) + length xs = omega arith in
      let more = positions-there on ns (qs ++ x ∷ []) xs rest (sym (λ i. valid_positions (here i) (end i) xs) ∙ k.1) g.1 in (
        more.0,
        subst (λ y. Reaches (stand inside ns qs o n y) (stand inside ns (qs ++ x ∷ xs) 0 more.0 rest)) (sym (append_assoc (position_field x) (flat_map position_field xs) rest))
            (follow step (subst (λ y. Reaches (stand inside ns (qs ++ x ∷ []) (length xs) on left) (stand inside ns y 0 more.0 rest)) (append_assoc qs (x ∷ []) xs) more.1)),
      )

  -- a route's own field
  route-there : (n k : ℕ) (cs : List ℕ) (qs : List Pos) (left : List ℕ) → 1 ≤ k → length cs < 16 → length qs + k ≤ 128 → Reaches (stand inside cs qs 0 n (route_field k ++ left)) (stand inside (cs ++ k ∷ []) qs k (n + field_size (route_field k ++ left)) left)
  route-there n k cs qs left some room within =
      let b = (k / 256) ∷ (k % 256) ∷ [] in
      let back : front b ≡ k = div-add-mod' k 256 in
      let on = n + field_size (route_field k ++ left) in
      let one = wrote Show (context inside cs qs 0) n 0x20 b left _ not-over-inside refl refl (may-route (eqb (length cs) 0)) (
        refl,
        (
          or_from _ _ (ne_eqb (front b) 0 (λ z. omega arith)) (le-ltb 128 (front b) (omega arith)),
          (or_from _ _ (lt-leb 16 (length cs) room) (le-ltb 128 (length qs + front b) (omega arith)), (refl, (refl, (refl, tt)))),
        ),
      ) in
      subst (λ y. Reaches (stand inside cs qs 0 n (route_field k ++ left)) (stand inside (cs ++ y ∷ []) qs y on left)) back one

  chunks-there : (n : ℕ) (cs : List ℕ) (qs : List Pos) (ns : List ℕ) (ps : List Pos) (rest : List ℕ) → sum ns ≡ length ps → every valid_chunk (chunks (length qs) ns ps) ≡ true → fits_venue rs ps ≡ true → length cs + length ns ≤ 16 → length qs + length ps ≤ 128 → (m : ℕ) × Reaches (stand inside cs qs 0 n (flat_map chunk_fields (chunks (length qs) ns ps) ++ rest)) (stand inside (cs ++ ns) (qs ++ ps) 0 m rest)
  chunks-there n cs qs [] ps rest all v f few most =
      let none = nil_from_length ps (sym all) in (
        n,
        subst (λ y. Reaches (stand inside cs qs 0 n rest) (stand inside y (qs ++ ps) 0 n rest)) (sym (append-nil cs))
            (subst (λ y. Reaches (stand inside cs qs 0 n rest) (stand inside cs y 0 n rest)) (sym (ap (λ y. qs ++ y) none ∙ append-nil qs)) (stay _)),
      )
  chunks-there n cs qs (k ∷ ns) ps rest all v f few most =
      let c : Chunk = record { first = length qs; count = k; positions = take k ps } in
      let w = and_parts (valid_chunk c) _ v in
      let a = and_parts (leb 1 k) _ w.0 in
      let sums = total k ns in
      let xs = take k ps in
      let size : length xs ≡ k = length-take k ps ∙ omega arith in
      let fit = every-parts (λ y. needs_fit rs 0 y.needs) xs (drop k ps) (ap (fits_venue rs) (take-append-drop k ps) ∙ f) in
      let later = flat_map chunk_fields (chunks (length qs + k) ns (drop k ps)) ++ rest in
      let left = flat_map position_field xs ++ later in
      let on = n + field_size (route_field k ++ left) in
      let least = leb-true 1 k a.0 in
      let head = route-there n k cs qs left least (omega arith) (omega arith) in
      let placed : valid_positions (length qs) (length qs + length xs) xs ≡ true = ap (λ y. valid_positions (length qs) (length qs + y) xs) size ∙ a.1 in
      let body = positions-there on (cs ++ k ∷ []) qs xs later placed fit.0 in
      let join = length-append qs xs in
      let here : length qs + k ≡ length (qs ++ xs) = omega arith in
      let rest_of = length-drop k ps in
      let sums' : sum ns ≡ length (drop k ps) = omega arith in
      let tail = chunks-there body.0 (cs ++ k ∷ []) (qs ++ xs) ns (drop k ps) rest sums' (ap (λ y. every valid_chunk (chunks y ns (drop k ps))) (sym here) ∙ w.1) fit.1 (omega (arith, length_push cs k)) (omega arith) in
      let go_on : Reaches (stand inside (cs ++ k ∷ []) qs k on left) (stand inside (cs ++ k ∷ []) (qs ++ xs) 0 body.0 later)
      = subst (λ y. Reaches (stand inside (cs ++ k ∷ []) qs y on left) (stand inside (cs ++ k ∷ []) (qs ++ xs) 0 body.0 later)) size body.1 in
      let last : Reaches (stand inside (cs ++ k ∷ []) (qs ++ xs) 0 body.0 later) (stand inside ((cs ++ k ∷ []) ++ ns) ((qs ++ xs) ++ drop k ps) 0 tail.0 rest)
      = subst (λ y. Reaches (stand inside (cs ++ k ∷ []) (qs ++ xs) 0 body.0 (flat_map chunk_fields (chunks y ns (drop k ps)) ++ rest)) (stand inside ((cs ++ k ∷ []) ++ ns) ((qs ++ xs) ++ drop k ps) 0 tail.0 rest)) (sym here) tail.1 in
      let whole : Reaches (stand inside cs qs 0 n (route_field k ++ left)) (stand inside (cs ++ k ∷ ns) (qs ++ ps) 0 tail.0 rest)
      = subst (λ y. Reaches (stand inside cs qs 0 n (route_field k ++ left)) (stand inside y (qs ++ ps) 0 tail.0 rest)) (append_assoc cs (k ∷ []) ns)
      (subst (λ y. Reaches (stand inside cs qs 0 n (route_field k ++ left)) (stand inside ((cs ++ k ∷ []) ++ ns) y 0 tail.0 rest)) (append_assoc qs xs (drop k ps) ∙ ap (λ y. qs ++ y) (take-append-drop k ps))
      (follow head (follow go_on last))) in (
        tail.0,
        subst (λ y. Reaches (stand inside cs qs 0 n y) (stand inside (cs ++ k ∷ ns) (qs ++ ps) 0 tail.0 rest))
            (sym (append_assoc (chunk_fields c) _ rest ∙ append_assoc (route_field k) (flat_map position_field xs) later)) whole,
      )

  pub show-there : (ns : List ℕ) (ps : List Pos) → valid_show ns ps ≡ true → fits_venue rs ps ≡ true → Ends (show_start rs (show_file ns ps)) rs ns ps
  show-there ns ps v f =
      let one = and_parts (leb 1 (length ns)) _ v in
      let few = and_parts (leb (length ns) 16) _ one.1 in
      let all = and_parts (eqb (sum ns) (length ps)) _ few.1 in
      let most = and_parts (leb (length ps) 128) _ all.1 in
      let some = leb-true 1 (length ns) one.0 in
      let fewer = leb-true (length ns) 16 few.0 in
      let within = leb-true (length ps) 128 most.0 in
      let body = flat_map chunk_fields (chunks 0 ns ps) ++ end_field in
      let head = wrote Show (context outset [] [] 0) 0 0x01 (byte_of_kind Show ∷ 1 ∷ []) body Head not-over-outset refl refl refl (refl, (refl, (refl, (refl, (refl, (refl, tt)))))) in
      let on = 0 + field_size (header_field Show ++ body) in
      let middle = chunks-there on [] [] ns ps end_field (eqb-true (sum ns) (length ps) all.0) most.1 f (omega arith) (omega arith) in
      let none : eqb (length ns) 0 ≡ false = ne_eqb (length ns) 0 (λ z. omega arith) in
      let may : allowed (turn_inside Show (context inside ns ps 0)) 0x7f ≡ true = ap (λ y. allowed (cond y FirstRoute MoreRoutes) 0x7f) none in
      let last = wrote Show (context inside ns ps 0) middle.0 0x7f [] [] _ not-over-inside refl refl may (refl, (refl, (refl, (refl, (refl, (refl, tt)))))) in
      record {
        at = stand over ns ps 0 (middle.0 + field_size (end_field ++ [])) [];
        reached = follow head (follow middle.1 last);
        ended = refl;
        none = refl;
        resources = refl;
        counts = refl;
        positions = refl;
      }
