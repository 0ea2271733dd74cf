-- What chains over a placing's numbers come to.
use Rattle.std.proofs.Common.{◌≡◌, ℕ, zero, suc, ◌+◌, ◌<◌, Bool, true, not, ◌||◌, eqb, nat_lt, List, [], ◌∷◌, get_or, map, sum, refl, ⊎_elim, arith}
use Rattle.std.specs.List.{list_all, filter}
use Rattle.std.proofs.lemmas.List.Sums.{sum_by-cons}
use Rattle.std.proofs.lemmas.Bool.{and_parts, cases_eq, eq-eqb, ne_eqb}
use Rattle.std.proofs.lemmas.Bool.Decides.{nat_tests}
use Rattle.figures.specs.Placing.{off, if_on}
use Rattle.rules.specs.Placing.{On, total}
use Rattle.rules.specs.Placings.{if-on, if-off}

abbrev known : ℕ → ℕ → Bool
known n p = eqb p off || nat_lt p n

-- each number is off or a position
pub all-placed : (n : ℕ) (w : List ℕ) → list_all (known n) w ≡ true → (k : ℕ) → On w k → get_or w k off < n
all-placed n [] e k on = absurd (on refl)
all-placed n (p ∷ w) e zero on = let h = (and_parts (known n p) _ e).0 in grind (arith, nat_tests, on, ne_eqb p off on)
all-placed n (p ∷ w) e (suc k) on = all-placed n w (and_parts (known n p) _ e).1 k on

pub placed-all : (n : ℕ) (w : List ℕ) → ((k : ℕ) → On w k → get_or w k off < n) → list_all (known n) w ≡ true
placed-all n [] h = refl
placed-all n (p ∷ w) h =
    let rest = placed-all n w (λ k on. h (suc k) on) in
    ⊎_elim
    (λ (e : p ≡ off). rw (eq-eqb p off e) rest)
    (λ on. let here = h 0 on in rw (ne_eqb p off on) (grind (arith, nat_tests, rest)))
    (cases_eq p off)

-- a figure of those on, added up
pub total-chain : (f : ℕ → ℕ) (w : List ℕ) → sum (map f (filter (λ p. not (eqb p off)) w)) ≡ total f w
total-chain f [] = refl
total-chain f (p ∷ w) =
    let more = sum_by-cons (if_on f) p w in
    let rest = total-chain f w in
    ⊎_elim
    (λ e.
    let none : sum (map f (filter (λ p. not (eqb p off)) (p ∷ w))) ≡ sum (map f (filter (λ p. not (eqb p off)) w)) = rw (eq-eqb p off e) refl in
    omega (arith, none, rest, more, if-off f p e))
    (λ on.
    let one : sum (map f (filter (λ p. not (eqb p off)) (p ∷ w))) ≡ f p + sum (map f (filter (λ p. not (eqb p off)) w)) = rw (ne_eqb p off on) (sum_by-cons (λ x. x) (f p) (map f (filter (λ p. not (eqb p off)) w))) in
    omega (arith, one, rest, more, if-on f p on))
    (cases_eq p off)
