-- Positions shared out to routes, as they come one by one.
use Rattle.std.proofs.Common.{◌≡◌, ℕ, suc, ◌+◌, ◌≤◌, List, [], ◌∷◌, ◌++◌, length, take, drop, sum, sym, refl, ap, ◌∙◌, subst, arith, length-drop}
use Rattle.std.proofs.lemmas.List.{take_all, drop_all, take-append-le, drop-append-le, nil_from_length, length_push}
use Rattle.std.proofs.lemmas.List.Sums.{sum_by-cons}
use Rattle.tables.specs.Model.{Pos, Chunk, chunks}

-- the positions fill the routes but for the last o of the last route
abbrev pub Shared : List ℕ → List Pos → ℕ → Type 0
Shared [] ps o = (length ps ≡ 0) × (o ≡ 0)
Shared (n ∷ []) ps o = length ps + o ≡ n
Shared (n ∷ m ∷ ns) ps o = (n ≤ length ps) × Shared (m ∷ ns) (drop n ps) o

pub total : (n : ℕ) (ns : List ℕ) → sum (n ∷ ns) ≡ n + sum ns
total n ns = sum_by-cons (λ x. x) n ns

pub shared-sum : (ns : List ℕ) (ps : List Pos) (o : ℕ) → Shared ns ps o → length ps + o ≡ sum ns
shared-sum [] ps o s = omega (arith, s.0, s.1)
shared-sum (n ∷ []) ps o s = omega (arith, total n [])
shared-sum (n ∷ m ∷ ns) ps o s =
    let t = shared-sum (m ∷ ns) (drop n ps) o s.1 in
    omega (arith, total n (m ∷ ns), length-drop n ps, s.0)

pub shared-route : (ns : List ℕ) (ps : List Pos) (n : ℕ) → Shared ns ps 0 → Shared (ns ++ n ∷ []) ps n
shared-route [] ps n s = omega (arith, s.0)
shared-route (m ∷ []) ps n s = (omega arith, omega (arith, length-drop m ps))
shared-route (m ∷ k ∷ ns) ps n s = (s.0, shared-route (k ∷ ns) (drop m ps) n s.1)

pub shared-position : (ns : List ℕ) (ps : List Pos) (x : Pos) (o : ℕ) → Shared ns ps (suc o) → Shared ns (ps ++ x ∷ []) o
shared-position [] ps x o s = absurd (omega (arith, s.1))
shared-position (n ∷ []) ps x o s = omega (arith, length_push ps x)
shared-position (n ∷ m ∷ ns) ps x o s =
    let le = s.0 in (
      omega (arith, length_push ps x),
      subst (λ l. Shared (m ∷ ns) l o) (sym (drop-append-le n ps (x ∷ []) le)) (shared-position (m ∷ ns) (drop n ps) x o s.1),
    )

-- a route more, with none of its positions yet
pub chunks-route : (f : ℕ) (ns : List ℕ) (ps : List Pos) (n : ℕ) → Shared ns ps 0 → chunks f (ns ++ n ∷ []) ps ≡ chunks f ns ps ++ record { first = f + length ps; count = n; positions = [] } ∷ []
chunks-route f [] ps n s =
    let none = nil_from_length ps s.0 in
    let on : f ≡ f + length ps = omega (arith, s.0) in
    let empty : take n ps ≡ [] = ap (take n) none ∙ take_all n [] (omega arith) in
    λ i. record { first = on i; count = n; positions = empty i } ∷ []
chunks-route f (m ∷ []) ps n s =
    let on : f + m ≡ f + length ps = omega arith in
    let none : drop m ps ≡ [] = drop_all m ps (omega arith) in
    let empty : take n (drop m ps) ≡ [] = ap (take n) none ∙ take_all n [] (omega arith) in
    λ i. record { first = f; count = m; positions = take m ps } ∷ record { first = on i; count = n; positions = empty i } ∷ []
chunks-route f (m ∷ k ∷ ns) ps n s =
    let le = s.0 in
    let on : f + m + length (drop m ps) ≡ f + length ps = omega (arith, length-drop m ps) in
    ap (λ l. record { first = f; count = m; positions = take m ps } ∷ l)
    (chunks-route (f + m) (k ∷ ns) (drop m ps) n s.1
    ∙ ap (λ a. chunks (f + m) (k ∷ ns) (drop m ps) ++ record { first = a; count = n; positions = [] } ∷ []) on)

-- the last chunk, before and after one position more
pub record Last (f : ℕ) (ns : List ℕ) (ps : List Pos) (x : Pos) (o : ℕ) : Type 0 where
  pub before : List Chunk
  pub last : Chunk
  pub was : chunks f ns ps ≡ before ++ last ∷ []
  pub is : chunks f ns (ps ++ x ∷ []) ≡ before ++ record { first = last.first; count = last.count; positions = last.positions ++ x ∷ [] } ∷ []
  pub own : last.first + length last.positions ≡ f + length ps
  pub end : last.first + last.count ≡ f + length ps + o

pub chunks-position : (f : ℕ) (ns : List ℕ) (ps : List Pos) (x : Pos) (o : ℕ) → Shared ns ps (suc o) → Last f ns ps x (suc o)
chunks-position f [] ps x o s = absurd (omega (arith, s.1))
chunks-position f (n ∷ []) ps x o s =
    let all = take_all n ps (omega arith) in
    let more = take_all n (ps ++ x ∷ []) (omega (arith, length_push ps x)) in
    record {
      before = [];
      last = record { first = f; count = n; positions = take n ps };
      was = refl;
      is = λ i. record { first = f; count = n; positions = (more ∙ ap (λ l. l ++ x ∷ []) (sym all)) i } ∷ [];
      own = ap (λ l. f + length l) all;
      end = omega arith;
    }
chunks-position f (n ∷ m ∷ ns) ps x o s =
    let le = s.0 in
    let t = chunks-position (f + n) (m ∷ ns) (drop n ps) x o s.1 in
    let c : Chunk = record { first = f; count = n; positions = take n ps } in
    let left = length-drop n ps in
    record {
      before = c ∷ t.before;
      last = t.last;
      was = ap (λ l. c ∷ l) t.was;
      is = (λ i. record { first = f; count = n; positions = take-append-le n ps (x ∷ []) le i } ∷ chunks (f + n) (m ∷ ns) (drop-append-le n ps (x ∷ []) le i)) ∙ ap (λ l. c ∷ l) t.is;
      own = t.own ∙ omega arith;
      end = t.end ∙ omega arith;
    }
