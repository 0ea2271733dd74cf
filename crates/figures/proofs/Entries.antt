-- What is read from a row of which the first entries are figures.
use Rattle.std.proofs.Common.{◌≡◌, ℕ, ◌+◌, ◌-◌, ◌<◌, ◌≤◌, List, ◌++◌, length, drop, get_or, Some, None, Option, sym, ap, ◌∙◌, arith, rules}
use Rattle.std.proofs.lemmas.List.{get_or-append-add, get_or-drop}
use Rattle.std.specs.Borrow.{Bor}
use Rattle.std.specs.Option.{unwrap_or, MatchOption}
use Rattle.std.specs.Slice.{IsItemAt}
use Rattle.figures.specs.declared.claim.ResourceFigures.{ResourceFigures}
use Rattle.figures.specs.Claims.{of_resource}

-- p's entry in a row of n figures; none for what has none
abbrev pub EntryOf : {V : Type 0} → ℕ → ℕ → List V → Option V → Type 0
EntryOf {V} n p row o = MatchOption o (n ≤ p) (λ x. (p < n) × ((e : V) → get_or row p e ≡ x))

-- the figure of p is its entry, or else that of what is no position
pub entry-or : {V : Type 0} (n p : ℕ) (row : List V) (e d v : V) (o : Option V) → EntryOf n p row o → (p < n → get_or row p e ≡ v) → (n ≤ p → d ≡ v) → unwrap_or o d ≡ v
entry-or n p row e d v None h held past = past h
entry-or n p row e d v (Some x) h held past = sym (h.1 e) ∙ held h.0

-- the same in the figures of a resource, if there are such
pub entry-in : {V : Type 0} (n p r : ℕ) (rows : List ResourceFigures) (part : ResourceFigures → List V) (e d v : V) (got : Option (Bor ResourceFigures)) (o : Option V) → IsItemAt rows r got → MatchOption got (o ≡ None) (λ x. EntryOf n p (part x.now) o) → (r < length rows → p < n → get_or (part (of_resource rows r)) p e ≡ v) → (length rows ≤ r → d ≡ v) → (n ≤ p → d ≡ v) → unwrap_or o d ≡ v
entry-in n p r rows part e d v None o item h held none past = ap (λ o. unwrap_or o d) h ∙ none (search rules)
entry-in n p r rows part e d v (Some x) o item h held none past = entry-or n p (part x.now) e d v o h (λ lt. let at : r < length rows = search rules in let is : of_resource rows r ≡ x.now = search rules in ap (λ f. get_or (part f) p e) (sym is) ∙ held at lt) past

pub match-weaker : {X : Type 0} (o : Option X) (P : Type 0) (Q R : X → Type 0) → ((x : X) → Q x → R x) → MatchOption o P Q → MatchOption o P R
match-weaker None P Q R f h = h
match-weaker (Some x) P Q R f h = f x h

-- behind the first n, which were worked out, stands what stood there
pub entry-behind : {V : Type 0} (known old : List V) (n r : ℕ) (d : V) → length known ≡ n → n ≤ r → get_or (known ++ drop n old) r d ≡ get_or old r d
entry-behind known old n r d long ge =
    let past : r ≡ length known + (r - n) = omega (arith, long) in
    let there : n + (r - n) ≡ r = omega arith in
    ap (λ k. get_or (known ++ drop n old) k d) past ∙ get_or-append-add known (drop n old) (r - n) d ∙ get_or-drop n old (r - n) d ∙ ap (λ k. get_or old k d) there
