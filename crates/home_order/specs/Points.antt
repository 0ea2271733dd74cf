-- The points of the home-order rule.
use Rattle.std.specs.Prelude.{◌≡◌, ℕ, ◌<◌, ◌≤◌, List, [], ◌∷◌, get_or, set, Some, None, Option, MatchOption, ◌≢◌, slice_index_or, slice_set, refl}
use Rattle.std.proofs.Common.{sym, ap, subst, ◌∙◌, arith}
use Rattle.std.specs.Option.{unwrap_or}
use Rattle.std.specs.List.{AllByRecursion}
use Rattle.std.proofs.ByRecursion.{All-weaker, All-from_get_or}
use Rattle.std.proofs.lemmas.List.{get_or-set_same, get_or-set_other, set-set}
use Rattle.tables.specs.Plan.{Plan, count, capacity, need}
use Rattle.figures.specs.Sound.{Sound}
use Rattle.figures.specs.Way.{main, from, after, way}
use Rattle.figures.specs.Placing.{off}
use Rattle.figures.proofs.Ways.{main-ahead, after-step}
use Rattle.rules.specs.Placing.{Fits, nobody}
use Rattle.rules.specs.Rule.{Names}
use Rattle.rules.specs.Placings.{on_below, nobody-on, still-on, formed-set}
use Rattle.rules.specs.Kept.{kept-empty, kept-alone, kept-removal, within-alone}
use Rattle.home_order.specs.HomeOrder.{AllGoHome, CanGoFirst, HomeOrder, HomeOrderNames}
use Rattle.home_order.specs.Goers.{Stuck, Goer}
use Rattle.home_order.specs.Homes.{has-removal, goes_first, stuck-order}
use Rattle.home_order.specs.Peaks.{fits-removal}

module _ (t : Plan) (sound : Sound t) where
  abbrev needs : ℕ → ℕ → ℕ
  needs r p = need t p r

  bounded : (r p : ℕ) → needs r p ≤ capacity t r
  bounded r p = sound.room p r

  pub home-empty : HomeOrder t nobody
  home-empty = (kept-empty t needs bounded, ([], nobody-on))

  pub home-alone : (k p : ℕ) → k < 64 → p < count t → HomeOrder t (slice_set nobody k p)
  home-alone k p lt at =
      let w = set nobody k p in
      let here : get_or w k off ≡ p = get_or-set_same nobody k p off lt in (
        kept-alone t needs bounded k p lt at,
        (
          k ∷ [],
          (
            (λ e. omega (arith, here, e, sound.few)),
            All-from_get_or (λ q. Fits t (slice_set w k q)) (way t (slice_index_or w k off)) off (λ i _. subst (Fits t) (sym (set-set nobody k p _)) (within-alone t needs bounded k _ lt)),
            λ j on. let was = still-on w k j on in nobody-on j (λ e. was.1 (others j was.0 ∙ e)),
          ),
        ),
      )
    where
      others : (j : ℕ) → (j ≢ k) → slice_index_or (slice_set nobody k p) j off ≡ slice_index_or nobody j off
      others j other = get_or-set_other nobody k j p off other

  pub home-removal : (w : List ℕ) (k : ℕ) → k < 64 → HomeOrder t w → HomeOrder t (slice_set w k off)
  home-removal w k lt h = (kept-removal t needs bounded w k lt h.0, has-removal (Fits t) t (fits-removal t sound) w k h.1)

  -- after a step home of a piece that can go first, it can go first again
  steps : (w : List ℕ) (k : ℕ) → HomeOrder t w → CanGoFirst (Fits t) t w k → (o : Option ℕ) → main t (slice_index_or w k off) ≡ o → HomeOrder t (slice_set w k (unwrap_or o off))
  steps w k h first None e = (kept-removal t needs bounded w k (omega (arith, on_below w k first.1.0, h.0.0.0)) h.0, (first.0, first.1.2))
  steps w k h first (Some q) e =
      let p = get_or w k off in
      let lt = on_below w k first.1.0 in
      let ahead = main-ahead t sound p q e in
      let rest : after t p ≡ way t q = after-step t sound p (h.0.0.1 k first.1.0) ∙ ap (λ o. from o (after t)) e in
      let goes : AllByRecursion (λ x. Fits t (slice_set w k x)) (way t q) = subst (AllByRecursion (λ x. Fits t (slice_set w k x))) rest first.1.1.1 in
      let here : get_or (slice_set w k q) k off ≡ q = get_or-set_same w k q off lt in (
        (formed-set t w k q (omega (arith, h.0.0.0)) (λ _. ahead.1) h.0.0, goes.0),
        (
          k ∷ first.0,
          (
            (λ off'. omega (arith, here, off', sound.few, ahead.1)),
            subst (λ x. AllByRecursion (λ y. Fits t (slice_set (slice_set w k q) k y)) (way t x)) (sym here) (All-weaker (λ y. Fits t (slice_set w k y)) (λ y. Fits t (slice_set (slice_set w k q) k y)) (λ y fit. subst (Fits t) (sym (set-set w k q y)) fit) (way t q) goes),
            subst (λ v. AllGoHome (Fits t) t v first.0) (sym (set-set w k q off)) first.1.2,
          ),
        ),
      )

  pub home-goes : (w : List ℕ) (r : Option ℕ) → HomeOrderNames t w r → Names (HomeOrder t) t w r
  home-goes w None h = h
  home-goes w (Some k) h = (h.0, h.1.1.0, steps w k h.0 h.1 (main t (slice_index_or w k off)) refl)

  -- the first piece that can go home beside the others is the first that can go first; where none can, nobody is on
  pub home-names : (w : List ℕ) (r : Option ℕ) → HomeOrder t w → MatchOption r (Stuck (Fits t) t w) (λ k. Goer (Fits t) t w k) → HomeOrderNames t w r
  home-names w None h stuck = λ _. stuck-order (Fits t) t w stuck h.1
  home-names w (Some k) h goer = (h, goes_first (Fits t) t (fits-removal t sound) w k goer.on goer.goes h.1, λ j before first. goer.first j first.1.0 before first.1.1)
