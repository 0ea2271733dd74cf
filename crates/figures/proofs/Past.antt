-- The figures of what is no position, and the claims on what is no resource.
use Rattle.std.proofs.Common.{◌≡◌, ℕ, zero, suc, ◌<◌, ◌≤◌, max, cond, eqb, [], get_or, refl, sym, ap, ◌∙◌, arith}
use Rattle.std.proofs.lemmas.List.{get_or_past}
use Rattle.std.proofs.lemmas.Bool.{eq-eqb}
use Rattle.std.proofs.lemmas.Bool.Decides.{nat_tests}
use Rattle.tables.specs.Plan.{Plan, kinds, count, need}
use Rattle.figures.specs.declared.claim.ResourceFigures.{ResourceFigures}
use Rattle.figures.specs.Sound.{Sound}
use Rattle.figures.specs.Way.{along, onward, after}
use Rattle.figures.specs.Claims.{made, lowest_of, lowest, claim, claim_along, nearest, claim_of, peak, FiguresHeld}
use Rattle.figures.proofs.Bounds.{claim-le, peak-le}

module _ (t : Plan) (sound : Sound t) where
  lowest-of-past : (p n : ℕ) → count t ≤ p → lowest_of t p n ≡ 256
  lowest-of-past p zero ge = refl
  lowest-of-past p (suc n) ge = rw (eq-eqb (need t p n) 0 (sound.nothing p n ge)) (lowest-of-past p n ge)

  pub lowest-past : (p : ℕ) → count t ≤ p → lowest t p ≡ 256
  lowest-past p ge = lowest-of-past p (kinds t) ge

  unclaimed : (r p : ℕ) → claim t r p ≡ 0 → claim_of t r p ≡ made 0 p
  unclaimed r p e = ap (λ n. made n (cond (eqb n 0) p (nearest t r n p (after t p)))) e

  pub no-resource : (r p : ℕ) → kinds t ≤ r → claim_of t r p ≡ made 0 p
  no-resource r p ge = unclaimed r p (omega (arith, claim-le t sound r p, get_or_past t.capacities r 0 ge))

  none-along : (r p n : ℕ) → count t ≤ p → claim_along t r p (onward t n p) ≡ 0
  none-along r p zero ge = let none = sound.nothing p r ge in grind (arith, nat_tests)
  none-along r p (suc n) ge = let none = sound.nothing p r ge in rw (get_or_past t.nexts p [] ge) (grind (arith, nat_tests))

  pub no-position : (r p : ℕ) → count t ≤ p → claim_of t r p ≡ made 0 p
  no-position r p ge = unclaimed r p (none-along r p (count t) ge)

  none-peak : (r p n : ℕ) → count t ≤ p → along (λ q. need t q r) (λ q next. max (need t q r) next) p (onward t n p) ≡ 0
  none-peak r p zero ge = sound.nothing p r ge
  none-peak r p (suc n) ge = rw (get_or_past t.nexts p [] ge) (sound.nothing p r ge)

  pub no-peak-position : (r p : ℕ) → count t ≤ p → peak t r p ≡ 0
  no-peak-position r p ge = none-peak r p (count t) ge

  pub no-peak-resource : (r p : ℕ) → kinds t ≤ r → peak t r p ≡ 0
  no-peak-resource r p ge = omega (arith, peak-le t sound r p, get_or_past t.capacities r 0 ge)

  -- what claims nothing, by each position itself, and needs nothing is the figures of what is no resource
  pub nothing-held : (r : ℕ) (held : ResourceFigures) → kinds t ≤ r → ((p : ℕ) → p < 128 → get_or held.claims p (made 0 0) ≡ made 0 p) → ((p : ℕ) → p < 128 → get_or held.peaks p 0 ≡ 0) → FiguresHeld t r held
  nothing-held r held ge claims peaks = record {
    claims = λ p lt. claims p (omega (arith, sound.few)) ∙ sym (no-resource r p ge);
    peaks = λ p lt. peaks p (omega (arith, sound.few)) ∙ sym (no-peak-resource r p ge);
  }
