-- Placings with the first pieces on.
use Rattle.std.proofs.Common.{ℕ, zero, suc, ◌<◌, List, [], ◌∷◌, ◌++◌, length, replicate, arith}
use Rattle.std.specs.List.{AllByRecursion as All}
use Rattle.tables.specs.Plan.{Plan, count}
use Rattle.figures.specs.Placing.{off}
use Rattle.rules.specs.Placing.{On, Placed}
use Rattle.rules.specs.Placings.{off-all}

pub on-front : (ps : List ℕ) (n k : ℕ) → On (ps ++ replicate n off) k → k < length ps
on-front [] n k on = absurd (on (off-all n k))
on-front (p ∷ ps) n zero on = omega arith
on-front (p ∷ ps) n (suc k) on = omega (arith, on-front ps n k on)

pub placed-front : (t : Plan) (ps : List ℕ) (n : ℕ) → All (λ p. p < count t) ps → Placed t (ps ++ replicate n off)
placed-front t [] n h k on = absurd (on (off-all n k))
placed-front t (p ∷ ps) n h zero on = h.0
placed-front t (p ∷ ps) n h (suc k) on = placed-front t ps n h.1 k on

-- what holds at 0 and at 1 holds below 2
pub below_two : (P : ℕ → Type 0) → P 0 → P 1 → (r : ℕ) → r < 2 → P r
below_two P a b zero h = a
below_two P a b (suc zero) h = b
below_two P a b (suc (suc r)) h = absurd (omega arith)

pub below-three : (P : ℕ → Type 0) → P 0 → P 1 → P 2 → (r : ℕ) → r < 3 → P r
below-three P a b c zero h = a
below-three P a b c (suc r) h = below_two (λ i. P (suc i)) b c r (omega arith)
