-- The distance home: a step home takes one off, none is left on the empty stage alone.
use Rattle.std.proofs.Common.{◌≡◌, ℕ, zero, suc, ◌+◌, ◌<◌, ◌≤◌, List, [], ◌∷◌, length, get_or, replicate, Some, None, Option, unwrap_or, refl, ap, ◌∙◌, ⊎_elim, arith}
use Rattle.std.proofs.lemmas.List.Sums.{sum_by-cons}
use Rattle.std.proofs.lemmas.Bool.{cases_eq}
use Rattle.tables.specs.Plan.{Plan, count}
use Rattle.figures.specs.Sound.{Sound}
use Rattle.figures.specs.Way.{main, way_length}
use Rattle.figures.specs.Placing.{off, if_on, stepped, home_step, distance}
use Rattle.figures.proofs.Ways.{main-ahead}
use Rattle.figures.proofs.Lengths.{length-step, length_last}
use Rattle.rules.specs.Placing.{On, Formed, total, nobody}
use Rattle.rules.specs.Placings.{on_below, if-on, if-off, total-set}

-- of a figure that is 1 at least, nothing comes of nobody alone
module _ (f : ℕ → ℕ) (some : (p : ℕ) → 1 ≤ f p) where
  none-on : (w : List ℕ) → total f w ≡ 0 → w ≡ replicate (length w) off
  none-on [] e = refl
  none-on (p ∷ w) e =
      let parts = sum_by-cons (if_on f) p w in
      ⊎_elim
      (λ gone. let rest = none-on w (omega (arith, parts)) in rw gone (ap (λ v. off ∷ v) rest))
      (λ on. absurd (omega (arith, parts, if-on f p on, some p)))
      (cases_eq p off)

  someone-on : (w : List ℕ) → 0 < total f w → (k : ℕ) × On w k
  someone-on [] h = absurd (omega arith)
  someone-on (p ∷ w) h = ⊎_elim
      (λ gone. let rest = someone-on w (omega (arith, sum_by-cons (if_on f) p w, if-off f p gone)) in (suc rest.0, rest.1))
      (λ on. (zero, on))
      (cases_eq p off)

module _ (t : Plan) (sound : Sound t) where
  step-length : (p : ℕ) → p < count t → if_on (way_length t) (stepped t p) + 1 ≡ way_length t p
  step-length p at = by (main t p) refl
    where
      by : (o : Option ℕ) → main t p ≡ o → if_on (way_length t) (unwrap_or o off) + 1 ≡ way_length t p
      by None e = omega (arith, if-off (way_length t) off refl, length_last t sound p at e)
      by (Some q) e =
          let ahead = main-ahead t sound p q e in
          omega (arith, length-step t sound p q at e, if-on (way_length t) q (λ gone. omega (arith, gone, ahead.1, sound.few)))

  pub nearer : (w : List ℕ) (k : ℕ) → Formed t w → On w k → distance t (home_step t w k) + 1 ≡ distance t w
  nearer w k formed on =
      let p = get_or w k off in
      omega (arith, total-set (way_length t) w k (stepped t p) (on_below w k on), step-length p (formed.1 k on), if-on (way_length t) p on)

  pub home : (w : List ℕ) → Formed t w → distance t w ≡ 0 → w ≡ nobody
  home w formed e = none-on (way_length t) (λ p. omega arith) w e ∙ ap (λ n. replicate n off) formed.0

  pub away : (w : List ℕ) → 0 < distance t w → (k : ℕ) × On w k
  away w h = someone-on (way_length t) (λ p. omega arith) w h
