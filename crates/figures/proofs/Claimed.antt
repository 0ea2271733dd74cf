-- The figure of `Claims` is the claim, with the position that sets it.
use Rattle.std.proofs.Common.{◌≡◌, ℕ, cond, eqb, List, [], ◌∷◌, refl, ap, ◌∙◌, arith}
use Rattle.std.proofs.lemmas.Bool.Decides.{nat_tests}
use Rattle.figures.specs.declared.claim.ResourceFigures.{ResourceFigures}
use Rattle.tables.specs.Plan.{Plan}
use Rattle.figures.specs.Way.{along, after, figure}
use Rattle.figures.specs.Claims.{claim, claim_along, claim_ending, claim_leading, nearest, setter, made, claim_of, claim_in}

module _ (t : Plan) (r : ℕ) where
  amount-along : (p : ℕ) (qs : List ℕ) → (along (claim_ending t r) (claim_leading t r) p qs).amount ≡ claim_along t r p qs
  amount-along p [] = refl
  amount-along p (q ∷ qs) = let rest = amount-along q qs in grind (arith, nat_tests)

  place-along : (p : ℕ) (qs : List ℕ) → (along (claim_ending t r) (claim_leading t r) p qs).position ≡ cond (eqb (claim_along t r p qs) 0) p (nearest t r (claim_along t r p qs) p qs)
  place-along p [] = grind (arith, nat_tests)
  place-along p (q ∷ qs) = let amount = amount-along q qs in let rest = place-along q qs in grind (arith, nat_tests)

  pub claim-figure : (p : ℕ) → figure t (claim_ending t r) (claim_leading t r) p ≡ claim_of t r p
  claim-figure p =
      let qs = after t p in
      ap (λ n. made n (along (claim_ending t r) (claim_leading t r) p qs).position) (amount-along p qs) ∙ ap (made (claim t r p)) (place-along p qs)

-- a row's entry, by its parts
pub claim-is : (rows : List ResourceFigures) (t : Plan) (r p : ℕ) → (claim_in rows r p).amount ≡ claim t r p → (claim_in rows r p).position ≡ setter t r p → claim_in rows r p ≡ claim_of t r p
claim-is rows t r p amount position = ap (λ n. made n (claim_in rows r p).position) amount ∙ ap (made (claim t r p)) position
