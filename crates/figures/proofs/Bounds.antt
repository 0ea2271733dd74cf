-- What claims and peak needs are bounded by.
use Rattle.std.proofs.Common.{◌≡◌, ℕ, ◌<◌, ◌≤◌, max, cond, ltb, List, [], ◌∷◌, Some, sym, subst, arith}
use Rattle.std.proofs.lemmas.Bool.Decides.{nat_tests}
use Rattle.tables.specs.Plan.{Plan, count, kinds, capacity, order, need}
use Rattle.figures.specs.Sound.{Sound}
use Rattle.figures.specs.Way.{main, along, after}
use Rattle.figures.specs.Claims.{lowest, below, claim, claim_along, peak}
use Rattle.figures.proofs.Lowest.{need-none}
use Rattle.figures.proofs.Ways.{figure-before}

larger : (o l n next : ℕ) → l ≤ o → next ≤ cond (ltb o l) 0 (max n next)
larger o l n next h = grind (arith, nat_tests)

module _ (t : Plan) (sound : Sound t) (r : ℕ) where
  need-le-along : (p : ℕ) (qs : List ℕ) → r < kinds t → need t p r ≤ claim_along t r p qs
  need-le-along p [] h = let none = need-none t p r h in grind (arith, nat_tests)
  need-le-along p (q ∷ qs) h = let none = need-none t p r h in grind (arith, nat_tests)

  pub need-le-claim : (p : ℕ) → r < kinds t → need t p r ≤ claim t r p
  need-le-claim p h = need-le-along p (after t p) h

  claim-le-along : (p : ℕ) (qs : List ℕ) → claim_along t r p qs ≤ capacity t r
  claim-le-along p [] = let here = sound.room p r in grind (arith, nat_tests)
  claim-le-along p (q ∷ qs) = let here = sound.room p r in let rest = claim-le-along q qs in grind (arith, nat_tests)

  pub claim-le : (p : ℕ) → claim t r p ≤ capacity t r
  claim-le p = claim-le-along p (after t p)

  -- the claim before a known main next
  pub claim-before : (p q : ℕ) → p < count t → main t p ≡ Some q → claim t r p ≡ cond (below t r p) 0 (max (need t p r) (claim t r q))
  claim-before p q lt e = figure-before t sound (λ q. cond (below t r q) 0 (need t q r)) (λ q next. cond (below t r q) 0 (max (need t q r) next)) p q lt e

  -- on its way home a piece claims no more of what it may claim
  pub claim-falls : (p q : ℕ) → p < count t → main t p ≡ Some q → lowest t p ≤ order t r → claim t r q ≤ claim t r p
  claim-falls p q lt e high = subst (λ n. claim t r q ≤ n) (sym (claim-before p q lt e)) (larger (order t r) (lowest t p) (need t p r) (claim t r q) high)

  peak-le-along : (p : ℕ) (qs : List ℕ) → along (λ q. need t q r) (λ q next. max (need t q r) next) p qs ≤ capacity t r
  peak-le-along p [] = sound.room p r
  peak-le-along p (q ∷ qs) = let here = sound.room p r in let rest = peak-le-along q qs in omega arith

  pub peak-le : (p : ℕ) → peak t r p ≤ capacity t r
  peak-le p = peak-le-along p (after t p)
