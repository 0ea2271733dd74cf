-- A show file that is accepted is the layout of a valid show that fits the venue.
use Rattle.std.proofs.Common.{◌≡◌, ℕ, suc, ◌+◌, ◌-◌, ◌≤◌, Bool, true, false, cond, eqb, ltb, leb, ◌⊎◌, List, [], ◌∷◌, ◌++◌, length, sym, refl, ap, ◌∙◌, subst, inl, inr, ⊎_elim, append_assoc, append-nil, arith}
use Rattle.std.specs.List.{flat_map, AllByRecursion as All}
use Rattle.std.proofs.lemmas.List.{length_push}
use Rattle.std.proofs.lemmas.Bool.{eqb-true, eqb-false, eq-eqb, leb-false, le-leb, ltb-false, or_cases, or_parts, and_parts, and_from}
use Rattle.fields.specs.Fields.{allowed, front}
use Rattle.fields.specs.declared.spot.File.TheVariants.{Show}
use Rattle.fields.specs.declared.field.Turn.TheVariants.{FirstRoute, MoreRoutes, InRoute}
use Rattle.tables.specs.Model.{Pos, Chunk, chunks}
use Rattle.tables.specs.Valid.{every, valid_position, valid_positions, valid_chunk, valid_show, needs_fit, fits_venue}
use Rattle.tables.specs.declared.resource.Resource.{Resource}
use Rattle.layout.specs.Layout.{field, header_field, route_field, position_field, end_field, chunk_fields, show_file}
use Rattle.layout.specs.Rules.{Moment, outset, inside, over, Context, turn_inside, position_at, with_field}
use Rattle.layout.specs.Reading.{Ends, show_start}
use Rattle.layout.proofs.Lowest.{Unbroken}
use Rattle.layout.proofs.Fronts.{Byte}
use Rattle.layout.proofs.Bodies.{route-body, end_body}
use Rattle.layout.proofs.Positions.{Sound, position-read}
use Rattle.layout.proofs.Chunks.{Shared, shared-sum, shared-route, shared-position, chunks-route, chunks-position}
use Rattle.layout.proofs.Calm.{body_rules}
use Rattle.layout.proofs.SoFar.{written, More, End, so_far}
use Rattle.layout.proofs.Wrote.{joined-push, every_append, every-parts}

-- one position more behind those of a route
pub positions-push : (own last : ℕ) (xs : List Pos) (x : Pos) → valid_positions own last xs ≡ true → valid_position (own + length xs) last x ≡ true → valid_positions own last (xs ++ x ∷ []) ≡ true
positions-push own last [] x v w = and_from _ _ (subst (λ n. valid_position n last x ≡ true) (omega arith) w) refl
positions-push own last (y ∷ xs) x v w =
    let k = and_parts (valid_position own last y) _ v in
    and_from _ _ k.0 (positions-push (own + 1) last xs x k.1 (subst (λ n. valid_position n last x ≡ true) (omega arith) w))

abbrev tables : Context → List ℕ
tables c = flat_map chunk_fields (chunks 0 c.counts c.positions)

module _ (rs : List Resource) (few : length rs ≤ 16) where
  record Going (c : Context) : Type 0 where
    resources : c.resources ≡ rs
    routes : length c.counts ≤ 16
    most : length c.positions + c.pending ≤ 128
    shared : Shared c.counts c.positions c.pending
    each : every valid_chunk (chunks 0 c.counts c.positions) ≡ true
    fits : fits_venue rs c.positions ≡ true

  abbrev Kept : Moment → Context → Type 0
  Kept outset c = (c.resources ≡ rs) × (c.counts ≡ []) × (c.positions ≡ []) × (c.pending ≡ 0)
  Kept inside c = Going c
  Kept over c = Going c × (1 ≤ length c.counts) × (c.pending ≡ 0)

  begins : (c : Context) (b : List ℕ) → Kept outset c → (tables (with_field c 1 b) ≡ []) × Kept inside (with_field c 1 b)
  begins c b k = (
    ap (λ ns. flat_map chunk_fields (chunks 0 ns c.positions)) k.1,
    record {
      resources = k.0;
      routes = omega (arith, ap length k.1);
      most = omega (arith, ap length k.2, k.3);
      shared = subst (λ ns. Shared ns c.positions c.pending) (sym k.1) (ap length k.2, k.3);
      each = ap (λ ns. every valid_chunk (chunks 0 ns c.positions)) k.1;
      fits = ap (fits_venue rs) k.2;
    },
  )

  may-come : (idle none : Bool) (t : ℕ) → allowed (cond idle (cond none FirstRoute MoreRoutes) InRoute) t ≡ true → ((t ≡ 0x20) × (idle ≡ true)) ⊎ (((t ≡ 0x7f) × (idle ≡ true) × (none ≡ false)) ⊎ ((t ≡ 0x21) × (idle ≡ false)))
  may-come true true t h = inl (eqb-true t 0x20 h, refl)
  may-come true false t h = ⊎_elim (λ e. inl (eqb-true t 0x20 e, refl)) (λ e. inr (inl (eqb-true t 0x7f e, refl, refl))) (or_cases (eqb t 0x20) (eqb t 0x7f) h)
  may-come false none t h = inr (inr (eqb-true t 0x21 h, refl))

  abbrev Step : Context → List ℕ → ℕ → Type 0
  Step c b t = More Show tables Kept c (with_field c t b) t b ⊎ End Show tables Kept c (with_field c t b) t b

  a-route : (c : Context) (b : List ℕ) → c.moment ≡ inside → Going c → c.pending ≡ 0 → All Byte b → All Unbroken (body_rules Show c 0x20 b) → More Show tables Kept c (with_field c 0x20 b) 0x20 b
  a-route c b m g z a u =
      let n = front b in
      let some = or_parts (eqb n 0) (ltb 128 n) u.1.0 in
      let least = eqb-false n 0 some.0 in
      let room = or_parts (leb 16 (length c.counts)) (ltb 128 (length c.positions + n)) u.1.1.0 in
      let shared = subst (Shared c.counts c.positions) z g.shared in
      let fewer = leb-false 16 (length c.counts) room.0 in
      let within = ltb-false 128 (length c.positions + n) room.1 in
      let k : Chunk = record { first = 0 + length c.positions; count = n; positions = [] } in
      let on = chunks-route 0 c.counts c.positions n shared in
      record {
        moment = m;
        grown = ap (flat_map chunk_fields) on
            ∙ joined-push chunk_fields (chunks 0 c.counts c.positions) k
            ∙ ap (λ x. tables c ++ x) (append-nil (route_field n) ∙ ap (field 0x20) (route-body b a u.0));
        kept = record {
          resources = g.resources;
          routes = omega (arith, length_push c.counts n);
          most = omega arith;
          shared = shared-route c.counts c.positions n shared;
          each = ap (every valid_chunk) on ∙ every_append valid_chunk (chunks 0 c.counts c.positions) (k ∷ []) g.each (and_from _ _ (and_from _ _ (le-leb 1 n (omega arith)) refl) refl);
          fits = g.fits;
        };
      }

  a-position : (c : Context) (b : List ℕ) → c.moment ≡ inside → Going c → eqb c.pending 0 ≡ false → All Byte b → All Unbroken (body_rules Show c 0x21 b) → More Show tables Kept c (with_field c 0x21 b) 0x21 b
  a-position c b m g nz a u =
      let own = length c.positions in
      let x = position_at b in
      let busy = eqb-false c.pending 0 nz in
      let o = c.pending - 1 in
      let next : c.pending ≡ suc o = omega arith in
      let venue = ap length g.resources in
      let sound : Sound c.resources own (own + c.pending) b
      = record { whole = u.0; range = u.1.0; ahead = u.1.1.1.0; there = u.1.1.1.1.0; enough = u.1.1.1.1.1.0 } in
      let r = position-read c.resources own (own + c.pending) b a (omega arith) sound in
      let shared = subst (Shared c.counts c.positions) next g.shared in
      let l = chunks-position 0 c.counts c.positions x o shared in
      let old = every-parts valid_chunk l.before (l.last ∷ []) (ap (every valid_chunk) (sym l.was) ∙ g.each) in
      let before = and_parts (valid_chunk l.last) true old.1 in
      let last = and_parts (leb 1 l.last.count) _ before.0 in
      let here : own ≡ l.last.first + length l.last.positions = sym (l.own ∙ omega arith) in
      let end : own + c.pending ≡ l.last.first + l.last.count = sym (l.end ∙ omega arith) in
      let placed : valid_position (l.last.first + length l.last.positions) (l.last.first + l.last.count) x ≡ true
      = (λ i. valid_position (sym here i) (sym end i) x) ∙ r.valid in
      let size = length_push c.positions x in
      let most = g.most in
      record {
        moment = m;
        grown = ap (flat_map chunk_fields) l.is
            ∙ joined-push chunk_fields l.before _
            ∙ ap (λ y. flat_map chunk_fields l.before ++ (route_field l.last.count ++ y)) (joined-push position_field l.last.positions x)
            ∙ ap (λ y. flat_map chunk_fields l.before ++ y) (sym (append_assoc (route_field l.last.count) (flat_map position_field l.last.positions) (position_field x)))
            ∙ sym (append_assoc (flat_map chunk_fields l.before) (chunk_fields l.last) (position_field x))
            ∙ (λ i. sym (ap (flat_map chunk_fields) l.was ∙ joined-push chunk_fields l.before l.last) i ++ field 0x21 (r.back i));
        kept = record {
          resources = g.resources;
          routes = g.routes;
          most = omega arith;
          shared = shared-position c.counts c.positions x o shared;
          each = ap (every valid_chunk) l.is ∙ every_append valid_chunk l.before _ old.0 (and_from _ _ (and_from _ _ last.0 (positions-push l.last.first _ l.last.positions x last.1 placed)) refl);
          fits = every_append (λ y. needs_fit rs 0 y.needs) c.positions (x ∷ []) g.fits (and_from _ _ (subst (λ y. needs_fit y 0 x.needs ≡ true) g.resources r.fits) refl);
        };
      }

  an-end : (c : Context) (b : List ℕ) → Going c → c.pending ≡ 0 → eqb (length c.counts) 0 ≡ false → All Unbroken (body_rules Show c 0x7f b) → End Show tables Kept c (with_field c 0x7f b) 0x7f b
  an-end c b g z n u =
      let some = eqb-false (length c.counts) 0 n in
      record {
        moment = refl;
        empty = ap (field 0x7f) (end_body b u.0);
        same = refl;
        kept = (record { resources = g.resources; routes = g.routes; most = g.most; shared = g.shared; each = g.each; fits = g.fits }, omega arith, z);
      }

  goes : (c : Context) (t : ℕ) (b : List ℕ) → c.moment ≡ inside → Kept inside c → allowed (turn_inside Show c) t ≡ true → All Byte b → All Unbroken (body_rules Show c t b) → Step c b t
  goes c t b m k h a u =
      let tests = λ (x : ℕ) (e : t ≡ x). subst (λ y. All Unbroken (body_rules Show c y b)) e u in
      ⊎_elim
      (λ (e : (t ≡ 0x20) × (eqb c.pending 0 ≡ true)).
      subst (Step c b) (sym e.0) (inl (a-route c b m k (eqb-true c.pending 0 e.1) a (tests 0x20 e.0))))
      (λ (o : ((t ≡ 0x7f) × (eqb c.pending 0 ≡ true) × (eqb (length c.counts) 0 ≡ false)) ⊎ ((t ≡ 0x21) × (eqb c.pending 0 ≡ false))).
      ⊎_elim
      (λ (e : (t ≡ 0x7f) × (eqb c.pending 0 ≡ true) × (eqb (length c.counts) 0 ≡ false)).
      subst (Step c b) (sym e.0) (inr (an-end c b k (eqb-true c.pending 0 e.1) e.2 (tests 0x7f e.0))))
      (λ (e : (t ≡ 0x21) × (eqb c.pending 0 ≡ false)).
      subst (Step c b) (sym e.0) (inl (a-position c b m k e.1 a (tests 0x21 e.0))))
      o)
      (may-come (eqb c.pending 0) (eqb (length c.counts) 0) t h)

  pub show-only : (bytes : List ℕ) (rs' : List Resource) (ns : List ℕ) (ps : List Pos) → All Byte bytes → Ends (show_start rs bytes) rs' ns ps → (valid_show ns ps ≡ true) × (fits_venue rs ps ≡ true) × (bytes ≡ show_file ns ps)
  show-only bytes rs' ns ps a e =
      let s = so_far Show tables Kept begins goes bytes (show_start rs bytes) e.at e.reached (record { file = refl; whole = refl; small = a; kept = (refl, refl, refl, refl) }) in
      let d = e.at.context in
      let k = subst (λ m. Kept m d) e.ended s.kept in
      let g = k.0 in
      let none = k.2 in
      let most = g.most in
      let w : bytes ≡ (header_field Show ++ (tables d ++ end_field)) ++ e.at.point.left
      = subst (λ m. bytes ≡ written Show tables Kept m d ++ e.at.point.left) e.ended s.whole in
      let all = shared-sum d.counts d.positions d.pending g.shared in
      let valid : valid_show d.counts d.positions ≡ true
      = and_from _ _ (le-leb _ _ k.1) (and_from _ _ (le-leb _ _ g.routes) (and_from _ _ (eq-eqb _ _ (omega arith)) (and_from _ _ (le-leb (length d.positions) 128 (omega arith)) g.each))) in (
        sym (λ i. valid_show (e.counts i) (e.positions i)) ∙ valid,
        ap (fits_venue rs) (sym e.positions) ∙ g.fits,
        w ∙ ap (λ x. (header_field Show ++ (tables d ++ end_field)) ++ x) e.none ∙ append-nil _ ∙ (λ i. show_file (e.counts i) (e.positions i)),
      )
