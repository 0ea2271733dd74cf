-- A position's needs: the bytes that name them, and the row by resource number.
use Rattle.std.proofs.Common.{◌≡◌, ℕ, zero, suc, ◌+◌, ◌/◌, ◌%◌, ◌<◌, ◌≤◌, true, false, ltb, leb, List, [], ◌∷◌, ◌++◌, map, length, sym, refl, ap, ◌∙◌, subst, ⊎_elim, arith}
use lib.ListN.{length-map}
use Rattle.std.specs.List.{AllByRecursion as All}
use Rattle.std.proofs.lemmas.List.{get_or_past}
use Rattle.std.proofs.lemmas.Bool.{cases_eq, cases_lt, and_parts, and_from, or_parts, or_from, le-leb, leb-true, leb-false, lt-leb, le-ltb, lt-ltb, ltb-true, ltb-false, eq-eqb, ne_eqb, cond-true, cond-false}
use Rattle.std.proofs.lemmas.Nat.{div-add-mod'}
use Rattle.fields.specs.Bytes.{word}
use Rattle.fields.specs.Fields.{rises}
use Rattle.tables.specs.Valid.{every, short, capacity_at, needs_fit}
use Rattle.tables.specs.declared.resource.Resource.{Resource}
use Rattle.layout.specs.Layout.{need_fields}
use Rattle.layout.specs.Rules.{lacks, exceeds, row_of_needs}
use Rattle.layout.proofs.Fronts.{Byte}
use Rattle.layout.proofs.Bodies.{halves}

-- bytes that name needs as they have to be, from resource i on: what all tests of them come to
abbrev pub Named : List Resource → ℕ → List ℕ → Type 0
Named rs i [] = Unit {0}
Named rs i (r ∷ []) = ⊥
Named rs i (r ∷ h ∷ []) = ⊥
Named rs i (r ∷ h ∷ l ∷ more) =
    (i ≤ r) × (1 ≤ word h l) × (h < 256) × (l < 256) × (r < length rs) × (word h l ≤ capacity_at rs r) × Named rs (r + 1) more

pub named-from : (rs : List Resource) (i : ℕ) (raw : List ℕ) → All Byte raw → length raw % 3 ≡ 0 → rises i raw ≡ true → lacks rs raw ≡ false → exceeds rs raw ≡ false → Named rs i raw
named-from rs i [] a m u k e = tt
named-from rs i (r ∷ []) a m u k e = absurd (omega arith)
named-from rs i (r ∷ h ∷ []) a m u k e = absurd (omega arith)
named-from rs i (r ∷ h ∷ l ∷ more) a m u k e =
    let p = and_parts (leb i r) _ u in
    let q = and_parts (leb 1 (word h l)) _ p.1 in
    let x = or_parts (leb (length rs) r) _ k in
    let y = or_parts (ltb (capacity_at rs r) (word h l)) _ e in (
      leb-true i r p.0,
      leb-true 1 (word h l) q.0,
      a.1.0,
      a.1.1.0,
      leb-false (length rs) r x.0,
      ltb-false (capacity_at rs r) (word h l) y.0,
      named-from rs (r + 1) more a.1.1.1 (omega arith) q.1 x.1 y.1,
    )

pub record Tested (rs : List Resource) (i : ℕ) (raw : List ℕ) : Type 0 where
  pub thirds : length raw % 3 ≡ 0
  pub rising : rises i raw ≡ true
  pub there : lacks rs raw ≡ false
  pub enough : exceeds rs raw ≡ false

pub named-tested : (rs : List Resource) (i : ℕ) (raw : List ℕ) → Named rs i raw → Tested rs i raw
named-tested rs i [] n = record { thirds = refl; rising = refl; there = refl; enough = refl }
named-tested rs i (r ∷ []) n = absurd n
named-tested rs i (r ∷ h ∷ []) n = absurd n
named-tested rs i (r ∷ h ∷ l ∷ more) n =
    let t = named-tested rs (r + 1) more n.6 in
    let m = t.thirds in
    record {
      thirds = omega arith;
      rising = and_from _ _ (le-leb _ _ n.0) (and_from _ _ (le-leb _ _ n.1) t.rising);
      there = or_from _ _ (lt-leb _ _ n.4) t.there;
      enough = or_from _ _ (le-ltb _ _ n.5) t.enough;
    }

-- the row that is read of bytes so named
pub record Row (rs : List Resource) (n i : ℕ) (raw : List ℕ) : Type 0 where
  pub back : need_fields i (row_of_needs n i raw) ≡ raw
  pub long : length (row_of_needs n i raw) ≡ n
  pub shorts : every short (row_of_needs n i raw) ≡ true
  pub fits : needs_fit rs i (row_of_needs n i raw) ≡ true

-- one need more at the front
row-none : (rs : List Resource) (n i : ℕ) (raw : List ℕ) → row_of_needs (suc n) i raw ≡ 0 ∷ row_of_needs n (i + 1) raw → Row rs n (i + 1) raw → Row rs (suc n) i raw
row-none rs n i raw e t =
    record {
      back = ap (need_fields i) e ∙ t.back;
      long = ap length e ∙ ap suc t.long;
      shorts = ap (every short) e ∙ t.shorts;
      fits = ap (needs_fit rs i) e ∙ and_from _ _ (le-leb _ _ (omega arith)) t.fits;
    }

row-some : (rs : List Resource) (n i h l : ℕ) (more : List ℕ) → 1 ≤ word h l → h < 256 → l < 256 → word h l ≤ capacity_at rs i → Row rs n (i + 1) more → Row rs (suc n) i (i ∷ h ∷ l ∷ more)
row-some rs n i h l more s b c w t =
    let e : row_of_needs (suc n) i (i ∷ h ∷ l ∷ more) ≡ word h l ∷ row_of_needs n (i + 1) more = cond-true _ _ _ (eq-eqb i i refl) in
    record {
      back = ap (need_fields i) e
          ∙ ap (λ x. x ++ need_fields (i + 1) (row_of_needs n (i + 1) more)) (cond-false _ _ _ (ne_eqb (word h l) 0 (λ z. omega arith)))
          ∙ ap (λ x. i ∷ x) (halves h l c (need_fields (i + 1) (row_of_needs n (i + 1) more)))
          ∙ ap (λ x. i ∷ h ∷ l ∷ x) t.back;
      long = ap length e ∙ ap suc t.long;
      shorts = ap (every short) e ∙ and_from _ _ (lt-ltb _ _ (omega arith)) t.shorts;
      fits = ap (needs_fit rs i) e ∙ and_from _ _ (le-leb _ _ w) t.fits;
    }

pub row_of : (rs : List Resource) (n i : ℕ) (raw : List ℕ) → Named rs i raw → length rs ≤ i + n → Row rs n i raw
row_of rs zero i [] d m = record { back = refl; long = refl; shorts = refl; fits = refl }
row_of rs zero i (r ∷ []) d m = absurd d
row_of rs zero i (r ∷ h ∷ []) d m = absurd d
row_of rs zero i (r ∷ h ∷ l ∷ more) d m = absurd (omega (arith, d.0, d.4))
row_of rs (suc n) i [] d m = row-none rs n i [] refl (row_of rs n (i + 1) [] tt (omega arith))
row_of rs (suc n) i (r ∷ []) d m = absurd d
row_of rs (suc n) i (r ∷ h ∷ []) d m = absurd d
row_of rs (suc n) i (r ∷ h ∷ l ∷ more) d m = ⊎_elim
    (λ (e : r ≡ i).
    subst (λ x. Row rs (suc n) i (x ∷ h ∷ l ∷ more)) (sym e)
    (row-some rs n i h l more d.1 d.2 d.3 (subst (λ x. word h l ≤ capacity_at rs x) e d.5)
    (row_of rs n (i + 1) more (subst (λ x. Named rs (x + 1) more) e d.6) (omega arith))))
    (λ (ne : r ≡ i → ⊥).
    row-none rs n i (r ∷ h ∷ l ∷ more) (cond-false _ _ _ (ne_eqb r i ne))
    (row_of rs n (i + 1) (r ∷ h ∷ l ∷ more) (omega (arith, d.0, ne), d.1, d.2, d.3, d.4, d.5, d.6) (omega arith)))
    (cases_eq r i)

-- and the bytes that are written of a row
earlier : (rs : List Resource) (i : ℕ) (raw : List ℕ) → Named rs (i + 1) raw → Named rs i raw
earlier rs i [] d = tt
earlier rs i (r ∷ []) d = d
earlier rs i (r ∷ h ∷ []) d = d
earlier rs i (r ∷ h ∷ l ∷ more) d = (omega (arith, d.0), d.1, d.2, d.3, d.4, d.5, d.6)

skips : (rs : List Resource) (n i : ℕ) (raw : List ℕ) → Named rs (i + 1) raw → row_of_needs (suc n) i raw ≡ 0 ∷ row_of_needs n (i + 1) raw
skips rs n i [] d = refl
skips rs n i (r ∷ []) d = refl
skips rs n i (r ∷ h ∷ []) d = refl
skips rs n i (r ∷ h ∷ l ∷ more) d = let up = d.0 in cond-false _ _ _ (ne_eqb r i (λ e. omega arith))

-- a resource of which something may be needed is there
is-there : (rs : List Resource) (i a : ℕ) → 1 ≤ a → a ≤ capacity_at rs i → i < length rs
is-there rs i a s w = ⊎_elim
    (λ (h : i < length rs). h)
    (λ (h : length rs ≤ i). let z = get_or_past (map (λ r. r.capacity) rs) i 0 (simp length-map h) in absurd (omega arith))
    (cases_lt i (length rs))

pub record Written (rs : List Resource) (i : ℕ) (row : List ℕ) : Type 0 where
  pub named : Named rs i (need_fields i row)
  pub back : (n : ℕ) → length row ≡ n → row_of_needs n i (need_fields i row) ≡ row

pub written : (rs : List Resource) (i : ℕ) (row : List ℕ) → needs_fit rs i row ≡ true → every short row ≡ true → Written rs i row
written rs i [] f s = record { named = tt; back = λ n e. ap (λ k. row_of_needs k i []) (sym e) }
written rs i (a ∷ row) f s =
    let p = and_parts (leb a (capacity_at rs i)) _ f in
    let q = and_parts (short a) _ s in
    let w = written rs (i + 1) row p.1 q.1 in
    let raw = need_fields (i + 1) row in
    let most = leb-true a (capacity_at rs i) p.0 in
    let few = ltb-true a 65536 q.0 in
    ⊎_elim
    (λ (z : a ≡ 0).
    let e : need_fields i (a ∷ row) ≡ raw = ap (λ x. x ++ raw) (cond-true _ _ _ (eq-eqb a 0 z)) in
    record {
      named = subst (Named rs i) (sym e) (earlier rs i raw w.named);
      back = λ n h.
          ap (λ k. row_of_needs k i (need_fields i (a ∷ row))) (sym h)
          ∙ ap (row_of_needs (suc (length row)) i) e
          ∙ skips rs (length row) i raw w.named
          ∙ ap (λ x. 0 ∷ x) (w.back (length row) refl)
          ∙ ap (λ x. x ∷ row) (sym z);
    })
    (λ (nz : a ≡ 0 → ⊥).
    let some : 1 ≤ a = omega (arith, nz) in
    let same : word (a / 256) (a % 256) ≡ a = div-add-mod' a 256 in
    let e : need_fields i (a ∷ row) ≡ i ∷ (a / 256) ∷ (a % 256) ∷ raw = ap (λ x. x ++ raw) (cond-false _ _ _ (ne_eqb a 0 nz)) in
    record {
      named = subst (Named rs i) (sym e)
          (omega arith, omega arith, omega arith, omega arith, is-there rs i a some most, omega arith, w.named);
      back = λ n h.
          ap (λ k. row_of_needs k i (need_fields i (a ∷ row))) (sym h)
          ∙ ap (row_of_needs (suc (length row)) i) e
          ∙ cond-true _ _ _ (eq-eqb i i refl)
          ∙ (λ j. same j ∷ w.back (length row) refl j);
    })
    (cases_eq a 0)
