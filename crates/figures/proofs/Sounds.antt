-- The plan of tables is sound.
use Rattle.std.proofs.Common.{◌≡◌, ℕ, zero, suc, ◌+◌, ◌-◌, ◌<◌, ◌≤◌, Bool, true, not, ◌&&◌, eqb, ltb, leb, List, [], ◌∷◌, map, length, get_or, take, drop, sum, refl, ap, ◌∙◌, subst, ⊎_elim, arith, length-drop, length-take}
use lib.ListN.{length-map}
use Rattle.std.proofs.lemmas.List.{get_or-map, get_or_past, get_or-take, get_or-drop}
use Rattle.std.proofs.lemmas.Bool.{and_parts, cases_lt, leb-true, ltb-true, eqb-true}
use Rattle.tables.specs.declared.resource.Resource.{Resource}
use Rattle.tables.specs.declared.tables.Tables.{Tables}
use Rattle.tables.specs.Model.{Pos, chunks, starts}
use Rattle.tables.specs.Valid.{every, short, has, nexts_ok, capacity_at, needs_fit, valid_resource, valid_venue, valid_position, valid_positions, valid_chunk, valid_show, fits_venue}
use Rattle.tables.specs.Contents.{Contents, contents}
use Rattle.tables.specs.Plan.{Plan, plan_of, plan, kinds, routes, count, capacity, first, next, need}
use Rattle.std.proofs.lemmas.List.Sums.{sum_by-cons}
use Rattle.figures.specs.Sound.{Sound}

total : (n : ℕ) (ns : List ℕ) → sum (n ∷ ns) ≡ n + sum ns
total n ns = sum_by-cons (λ x. x) n ns

every-at : {X : Type 0} (p : X → Bool) (xs : List X) (i : ℕ) (d : X) → i < length xs → every p xs ≡ true → p (get_or xs i d) ≡ true
every-at p [] i d lt e = absurd (omega arith)
every-at p (x ∷ xs) zero d lt e = (and_parts (p x) _ e).0
every-at p (x ∷ xs) (suc i) d lt e = every-at p xs i d (omega arith) (and_parts (p x) _ e).1

nexts-at : (own last : ℕ) (qs : List ℕ) (k : ℕ) → nexts_ok own last qs ≡ true → k < length qs → (own < get_or qs k 0) × (get_or qs k 0 < last)
nexts-at own last [] k v lt = absurd (omega arith)
nexts-at own last (q ∷ qs) zero v lt =
    let b = and_parts (ltb own q) (ltb q last) (and_parts (ltb own q && ltb q last) _ v).0 in
    (ltb-true own q b.0, ltb-true q last b.1)
nexts-at own last (q ∷ qs) (suc k) v lt = nexts-at own last qs k (and_parts (not (has q qs)) _ (and_parts (ltb own q && ltb q last) _ v).1).1 (omega arith)

needs-at : (rs : List Resource) (i : ℕ) (needs : List ℕ) (k : ℕ) → needs_fit rs i needs ≡ true → get_or needs k 0 ≤ capacity_at rs (i + k)
needs-at rs i [] k v = omega arith
needs-at rs i (a ∷ needs) zero v = let e : i ≡ i + 0 = omega arith in subst (λ n. a ≤ capacity_at rs n) e (leb-true a (capacity_at rs i) (and_parts (leb a (capacity_at rs i)) _ v).0)
needs-at rs i (a ∷ needs) (suc k) v =
    let e : i + 1 + k ≡ i + suc k = omega arith in
    subst (λ n. get_or needs k 0 ≤ capacity_at rs n) e (needs-at rs (i + 1) needs k (and_parts (leb a (capacity_at rs i)) _ v).1)

positions-at : (own last : ℕ) (xs : List Pos) (i : ℕ) (d : Pos) → i < length xs → valid_positions own last xs ≡ true → valid_position (own + i) last (get_or xs i d) ≡ true
positions-at own last [] i d lt v = absurd (omega arith)
positions-at own last (x ∷ xs) zero d lt v = let e : own ≡ own + 0 = omega arith in subst (λ n. valid_position n last x ≡ true) e (and_parts (valid_position own last x) _ v).0
positions-at own last (x ∷ xs) (suc i) d lt v =
    let e : own + 1 + i ≡ own + suc i = omega arith in
    subst (λ n. valid_position n last (get_or xs i d) ≡ true) e (positions-at (own + 1) last xs i d (omega arith) (and_parts (valid_position own last x) _ v).1)

-- a position of a route, with the number behind the route's last
abbrev Placed : ℕ → ℕ → Pos → Type 0
Placed own most x = (last : ℕ) × (last ≤ most) × (valid_position own last x ≡ true)

chunks-at : (f : ℕ) (ns : List ℕ) (ps : List Pos) (p : ℕ) (d : Pos) → sum ns ≡ length ps → every valid_chunk (chunks f ns ps) ≡ true → p < length ps → Placed (f + p) (f + length ps) (get_or ps p d)
chunks-at f [] ps p d e v lt = absurd (omega arith)
chunks-at f (n ∷ ns) ps p d e v lt =
    let k = and_parts (valid_chunk (record { first = f; count = n; positions = take n ps })) _ v in
    let sums = total n ns in
    let left = length-drop n ps in
    let mine = length-take n ps in
    ⊎_elim
    (λ (here : p < n).
    let at = positions-at f (f + n) (take n ps) p d (omega arith) (and_parts (leb 1 n) _ k.0).1 in
    (f + n, omega arith, subst (λ x. valid_position (f + p) (f + n) x ≡ true) (get_or-take n ps p d here) at))
    (λ (later : n ≤ p).
    let own : f + n + (p - n) ≡ f + p = omega arith in
    let same : n + (p - n) ≡ p = omega arith in
    let most : f + n + length (drop n ps) ≡ f + length ps = omega arith in
    let at = chunks-at (f + n) ns (drop n ps) (p - n) d (omega arith) k.1 (omega arith) in
    let is : get_or (drop n ps) (p - n) d ≡ get_or ps p d = get_or-drop n ps (p - n) d ∙ ap (λ i. get_or ps i d) same in
    subst (Placed (f + p) (f + length ps)) is (subst (λ m. Placed (f + p) m (get_or (drop n ps) (p - n) d)) most (subst (λ o. Placed o (f + n + length (drop n ps)) (get_or (drop n ps) (p - n) d)) own at)))
    (cases_lt p n)

starts-at : (f : ℕ) (ns : List ℕ) (ps : List Pos) (j : ℕ) → every valid_chunk (chunks f ns ps) ≡ true → j < length ns → get_or (starts f ns) j 0 < f + sum ns
starts-at f [] ps j v lt = absurd (omega arith)
starts-at f (n ∷ ns) ps zero v lt =
    let k = and_parts (valid_chunk (record { first = f; count = n; positions = take n ps })) _ v in
    let some = leb-true 1 n (and_parts (leb 1 n) _ k.0).0 in
    omega (arith, total n ns)
starts-at f (n ∷ ns) ps (suc j) v lt =
    let k = and_parts (valid_chunk (record { first = f; count = n; positions = take n ps })) _ v in
    let rest = starts-at (f + n) ns (drop n ps) j k.1 (omega arith) in
    omega (arith, rest, total n ns)

length-starts : (f : ℕ) (ns : List ℕ) → length (starts f ns) ≡ length ns
length-starts f [] = refl
length-starts f (n ∷ ns) = ap suc (length-starts (f + n) ns)

abbrev nowhere : Pos
nowhere = record { nexts = []; needs = [] }

module _ (c : Contents) (venue : valid_venue c.resources ≡ true) (show : valid_show c.counts c.positions ≡ true) (fits : fits_venue c.resources c.positions ≡ true) where
  abbrev rs : List Resource
  rs = c.resources

  abbrev ps : List Pos
  ps = c.positions

  abbrev t : Plan
  t = plan_of c

  kinds-is : kinds t ≡ length rs
  kinds-is = length-map rs (λ r. r.capacity)

  count-is : count t ≡ length ps
  count-is = length-map ps (λ x. x.nexts)

  record Parts : Type 0 where
    sums : sum c.counts ≡ length ps
    most : length ps ≤ 128
    each : every valid_chunk (chunks 0 c.counts ps) ≡ true
    sixteen : length rs ≤ 16
    resources : every valid_resource rs ≡ true

  parts : Parts
  parts =
      let one = and_parts (leb 1 (length c.counts)) _ show in
      let few = and_parts (leb (length c.counts) 16) _ one.1 in
      let all = and_parts (eqb (sum c.counts) (length ps)) _ few.1 in
      let most = and_parts (leb (length ps) 128) _ all.1 in
      let some = and_parts (leb 1 (length rs)) _ venue in
      let sixteen = and_parts (leb (length rs) 16) _ some.1 in
      record {
        sums = eqb-true (sum c.counts) (length ps) all.0;
        most = leb-true (length ps) 128 most.0;
        each = most.1;
        sixteen = leb-true (length rs) 16 sixteen.0;
        resources = sixteen.1;
      }

  next-at : (p : ℕ) → p < length ps → next t p ≡ (get_or ps p nowhere).nexts
  next-at p lt = get_or-map (λ x. x.nexts) ps p nowhere [] lt

  ahead-at : (p k : ℕ) → p < length ps → k < length (next t p) → (p < get_or (next t p) k 0) × (get_or (next t p) k 0 < count t)
  ahead-at p k lt =
      let at = chunks-at 0 c.counts ps p nowhere parts.sums parts.each lt in
      let four = and_parts (leb (length (get_or ps p nowhere).nexts) 4) _ at.2 in
      let ok = and_parts (nexts_ok (0 + p) at.0 (get_or ps p nowhere).nexts) _ four.1 in
      rw (next-at p lt) (λ h. let b = nexts-at (0 + p) at.0 (get_or ps p nowhere).nexts k ok.0 h in let top = at.1 in let size = count-is in (omega arith, omega arith))

  ahead : (p k : ℕ) → k < length (next t p) → (p < get_or (next t p) k 0) × (get_or (next t p) k 0 < count t)
  ahead p k = ⊎_elim
      (λ (lt : p < length ps). ahead-at p k lt)
      (λ (ge : length ps ≤ p). let none = get_or_past (map (λ x. x.nexts) ps) p [] (simp length-map ge) in rw none (λ h. absurd (omega arith)))
      (cases_lt p (length ps))

  room : (p r : ℕ) → need t p r ≤ capacity t r
  room p r = ⊎_elim
      (λ (lt : p < length ps).
      let is = get_or-map (λ x. x.needs) ps p nowhere [] lt in
      let fit = needs-at rs 0 (get_or ps p nowhere).needs r (every-at (λ x. needs_fit rs 0 x.needs) ps p nowhere lt fits) in
      let e : 0 + r ≡ r = omega arith in
      rw is (subst (λ n. get_or (get_or ps p nowhere).needs r 0 ≤ capacity_at rs n) e fit))
      (λ (ge : length ps ≤ p). let none = get_or_past (map (λ x. x.needs) ps) p [] (simp length-map ge) in rw none (omega arith))
      (cases_lt p (length ps))

  sized : (r : ℕ) → r < kinds t → (0 < capacity t r) × (capacity t r < 65536)
  sized r h =
      let lt : r < length rs = omega (arith, kinds-is) in
      let d : Resource = record { capacity = 0; order = 0; name = [] } in
      let v = every-at valid_resource rs r d lt parts.resources in
      let some = and_parts (leb 1 (get_or rs r d).capacity) _ v in
      let narrow = and_parts (short (get_or rs r d).capacity) _ some.1 in
      let is = get_or-map (λ x. x.capacity) rs r d 0 lt in
      let low = leb-true 1 (get_or rs r d).capacity some.0 in
      let high = ltb-true (get_or rs r d).capacity 65536 narrow.0 in
      (omega (arith, is), omega (arith, is))

  begins : (j : ℕ) → j < routes t → first t j < count t
  begins j h =
      let lt : j < length c.counts = omega (arith, length-starts 0 c.counts) in
      omega (arith, starts-at 0 c.counts ps j parts.each lt, parts.sums, count-is)

  nothing : (p r : ℕ) → count t ≤ p → need t p r ≡ 0
  nothing p r ge = let none = get_or_past (map (λ x. x.needs) ps) p [] (omega (arith, length-map ps (λ x. x.needs), count-is)) in rw none refl

  pub contents-sound : Sound (plan_of c)
  contents-sound = record { ahead = ahead; room = room; sized = sized; begins = begins; nothing = nothing; few = omega (arith, count-is, parts.most); sixteen = omega (arith, kinds-is, parts.sixteen) }

pub sound : (t : Tables) → Sound (plan t)
sound t = contents-sound (contents t) t.venue.valid t.show.valid t.fits
