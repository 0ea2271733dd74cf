-- The peak needs fit exactly if every placing on the way home does.
use Rattle.std.specs.Prelude.{◌≡◌, ℕ, ◌+◌, ◌<◌, ◌≤◌, max, List, [], ◌∷◌, length, slice_index_or, slice_set}
use Rattle.std.proofs.Common.{sym, subst, ⊎_elim, arith}
use Rattle.std.specs.List.{AllByRecursion}
use Rattle.std.proofs.ByRecursion.{All-weaker}
use Rattle.std.proofs.lemmas.List.{set_past}
use Rattle.std.proofs.lemmas.Bool.{cases_eq, cases_lt}
use Rattle.tables.specs.Plan.{Plan, kinds, capacity, need}
use Rattle.figures.specs.Sound.{Sound}
use Rattle.figures.specs.Way.{along, after, way}
use Rattle.figures.specs.Placing.{off, if_on}
use Rattle.rules.specs.Placing.{On, Fits, held}
use Rattle.rules.specs.Placings.{on_below, if-on, if-off, total-set}
use Rattle.home_order.specs.HomeOrder.{GoesHome}
use Rattle.home_order.specs.Sums.{SumsOf, PeaksFit}

all-swap : (P : ℕ → ℕ → Type 0) (n : ℕ) (qs : List ℕ) → ((r : ℕ) → r < n → AllByRecursion (P r) qs) → AllByRecursion (λ q. (r : ℕ) → r < n → P r q) qs
all-swap P n [] h = tt
all-swap P n (q ∷ qs) h = ((λ r lt. (h r lt).0), all-swap P n qs (λ r lt. (h r lt).1))

module _ (t : Plan) (r h c : ℕ) where
  abbrev peak_along : ℕ → List ℕ → ℕ
  peak_along p qs = along (λ q. need t q r) (λ q next. max (need t q r) next) p qs

  peak-all : (p : ℕ) (qs : List ℕ) → h + peak_along p qs ≤ c → AllByRecursion (λ q. h + need t q r ≤ c) (p ∷ qs)
  peak-all p [] le = (le, tt)
  peak-all p (q ∷ qs) le = (omega arith, peak-all q qs (omega arith))

  all-peak : (p : ℕ) (qs : List ℕ) → AllByRecursion (λ q. h + need t q r ≤ c) (p ∷ qs) → h + peak_along p qs ≤ c
  all-peak p [] all = all.0
  all-peak p (q ∷ qs) all = let rest = all-peak q qs all.1 in omega (arith, all.0)

module _ (t : Plan) (sound : Sound t) where
  -- a piece that is off needs nothing
  if-any : (r q : ℕ) → if_on (λ p. need t p r) q ≡ need t q r
  if-any r q = ⊎_elim
      (λ e. omega (arith, if-off (λ p. need t p r) q e, sound.nothing q r (omega (arith, sound.few, e))))
      (λ on. if-on (λ p. need t p r) q on)
      (cases_eq q off)

  -- another position in a piece's place
  held-set : (w : List ℕ) (k q r : ℕ) → k < length w → held t r (slice_set w k q) + need t (slice_index_or w k off) r ≡ held t r w + need t q r
  held-set w k q r lt = omega (arith, total-set (λ p. need t p r) w k q lt, if-any r q, if-any r (slice_index_or w k off))

  -- what a piece on needs is held
  pub need-held : (w : List ℕ) (k r : ℕ) → On w k → need t (slice_index_or w k off) r ≤ held t r w
  need-held w k r on = omega (arith, held-set w k off r (on_below w k on), sound.nothing off r (omega (arith, sound.few)))

  pub held-off : (w : List ℕ) (k r : ℕ) → On w k → held t r (slice_set w k off) + need t (slice_index_or w k off) r ≡ held t r w
  held-off w k r on = omega (arith, held-set w k off r (on_below w k on), sound.nothing off r (omega (arith, sound.few)))

  pub fits-removal : (w : List ℕ) (k : ℕ) → Fits t w → Fits t (slice_set w k off)
  fits-removal w k h = ⊎_elim
      (λ (lt : k < length w). λ r known. omega (arith, held-set w k off r lt, sound.nothing off r (omega (arith, sound.few)), h r known))
      (λ (ge : length w ≤ k). subst (Fits t) (sym (set_past w k off ge)) h)
      (cases_lt k (length w))

  module _ (w sums : List ℕ) (k : ℕ) (on : On w k) (is : SumsOf t w sums) where
    abbrev p : ℕ
    p = slice_index_or w k off

    pub peaks-go : PeaksFit t sums p → GoesHome (Fits t) t w k
    peaks-go fit = all-swap (λ r q. held t r (slice_set w k q) ≤ capacity t r) (kinds t) (way t p) (λ r known.
        All-weaker (λ q. held t r w + need t q r ≤ capacity t r + need t p r) (λ q. held t r (slice_set w k q) ≤ capacity t r)
        (λ q le. omega (arith, held-set w k q r (on_below w k on)))
        (way t p)
        (peak-all t r (held t r w) (capacity t r + need t p r) p (after t p) (omega (arith, fit r known, is r known))))

    pub go-peaks : GoesHome (Fits t) t w k → PeaksFit t sums p
    go-peaks goes r known =
        let each = All-weaker (λ q. Fits t (slice_set w k q)) (λ q. held t r w + need t q r ≤ capacity t r + need t p r)
        (λ q fit. omega (arith, fit r known, held-set w k q r (on_below w k on)))
        (way t p)
        goes in
        omega (arith, is r known, all-peak t r (held t r w) (capacity t r + need t p r) p (after t p) each)
