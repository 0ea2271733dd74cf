-- The first piece that can go home, and whether nobody is on, as chains over the placing's numbers find them.
use Rattle.std.proofs.Common.{◌≡◌, ℕ, zero, suc, ◌<◌, true, eqb, List, [], ◌∷◌, length, Some, None, Option, refl, ⊎_elim, arith}
use Rattle.std.specs.Option.{MatchOption}
use Rattle.std.specs.List.{list_all, AllWithin, HoldsAt}
use Rattle.std.proofs.lemmas.Bool.{and_parts, cases_eq, eq-eqb, eqb-true}
use Rattle.tables.specs.Plan.{Plan}
use Rattle.figures.specs.Sound.{Sound}
use Rattle.figures.specs.Placing.{off}
use Rattle.rules.specs.Placing.{On, Fits}
use Rattle.rules.specs.Placings.{on_below}
use Rattle.home_order.specs.Goers.{Stuck, Goer}
use Rattle.home_order.specs.Sums.{SumsOf, PeaksFit}
use Rattle.home_order.specs.Peaks.{peaks-go, go-peaks}

pub none-on : (w : List ℕ) → list_all (λ p. eqb p off) w ≡ true → (k : ℕ) → On w k → ⊥
none-on [] e k on = on refl
none-on (p ∷ w) e zero on = on (eqb-true p off (and_parts (eqb p off) _ e).0)
none-on (p ∷ w) e (suc k) on = none-on w (and_parts (eqb p off) _ e).1 k on

pub on-none : (w : List ℕ) → ((k : ℕ) → On w k → ⊥) → list_all (λ p. eqb p off) w ≡ true
on-none [] h = refl
on-none (p ∷ w) h = ⊎_elim (λ e. rw (eq-eqb p off e) (on-none w (λ k. h (suc k)))) (λ on. absurd (h 0 on)) (cases_eq p off)

-- a piece on at p can go home beside the others, or not
abbrev pub Goes : Plan → List ℕ → ℕ → Type 0
Goes t sums p = (p ≡ off → ⊥) × PeaksFit t sums p

module _ (t : Plan) (sound : Sound t) (w sums : List ℕ) (is : SumsOf t w sums) where
  pub first-goer : (o : Option ℕ) → MatchOption o (AllWithin (λ p. Goes t sums p → ⊥) w 0 (length w)) (λ i. (i < length w) × HoldsAt (Goes t sums) w i × AllWithin (λ p. Goes t sums p → ⊥) w 0 i) → MatchOption o (Stuck (Fits t) t w) (λ k. Goer (Fits t) t w k)
  first-goer None h = λ k on goes. h k off (omega arith) (on_below w k on) (on, go-peaks t sound w sums k on is goes)
  first-goer (Some k) h = record {
    on = (h.1 off).0;
    goes = peaks-go t sound w sums k (h.1 off).0 is (h.1 off).1;
    first = λ j on before goes. h.2 j off (omega arith) before (on, go-peaks t sound w sums j on is goes);
  }
