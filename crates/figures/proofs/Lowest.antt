-- The lowest order, resource by resource.
use Rattle.std.proofs.Common.{◌≡◌, ℕ, zero, suc, ◌<◌, ◌≤◌, List, [], ◌∷◌, sym, refl, ⊎_elim, arith}
use Rattle.std.proofs.lemmas.Bool.Decides.{nat_tests}
use Rattle.std.proofs.lemmas.Bool.{cases_lt}
use Rattle.tables.specs.Plan.{Plan, kinds, order, need}
use Rattle.figures.specs.Way.{along, after, figure}
use Rattle.figures.specs.Claims.{lowest_of, lowest}

module _ (t : Plan) (p : ℕ) where
  -- the lowest order is at most that of each resource needed
  lowest-le : (n r : ℕ) → r < n → 0 < need t p r → lowest_of t p n ≤ order t r
  lowest-le zero r h a = absurd (omega arith)
  lowest-le (suc n) r h a = ⊎_elim
      (λ lt. let rest = lowest-le n r lt a in grind (arith, nat_tests))
      (λ (ge : n ≤ r). let same : r ≡ n = omega arith in rw (sym same) (grind (arith, nat_tests)))
      (cases_lt r n)

  -- nothing of a lower order is needed
  pub need-none : (r : ℕ) → r < kinds t → order t r < lowest t p → need t p r ≡ 0
  need-none r h a = ⊎_elim (λ some. absurd (omega (arith, lowest-le (kinds t) r h some))) (λ none. omega arith) (cases_lt 0 (need t p r))

own-along : (t : Plan) (p : ℕ) (qs : List ℕ) → along (λ q. lowest t q) (λ q _. lowest t q) p qs ≡ lowest t p
own-along t p [] = refl
own-along t p (q ∷ qs) = refl

-- the figure of `Lowest` is the lowest order
pub lowest-figure : (t : Plan) (p : ℕ) → figure t (λ q. lowest t q) (λ q _. lowest t q) p ≡ lowest t p
lowest-figure t p = own-along t p (after t p)
