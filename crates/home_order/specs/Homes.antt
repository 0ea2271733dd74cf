-- Orders in which pieces go home, where taking a piece off leaves a fine placing fine.
use Rattle.std.specs.Prelude.{◌≡◌, ℕ, List, [], ◌∷◌, ◌≢◌, slice_index_or, slice_set}
use Rattle.std.proofs.Common.{sym, subst, ◌∙◌, ⊎_elim}
use Rattle.std.specs.List.{AllByRecursion}
use Rattle.std.proofs.ByRecursion.{All-weaker}
use Rattle.std.proofs.lemmas.List.{get_or-set_other, set_comm}
use Rattle.std.proofs.lemmas.Bool.{cases_eq}
use Rattle.tables.specs.Plan.{Plan}
use Rattle.figures.specs.Way.{way}
use Rattle.figures.specs.Placing.{off}
use Rattle.rules.specs.Placing.{On}
use Rattle.rules.specs.Placings.{still-on}
use Rattle.home_order.specs.HomeOrder.{GoesHome, AllGoHome, HasOrder, CanGoFirst}
use Rattle.home_order.specs.Goers.{Stuck}

module _ (fine : List ℕ → Type 0) (t : Plan) (removal : (w : List ℕ) (k : ℕ) → fine w → fine (slice_set w k off)) where
  -- with one piece fewer, k can go all the more
  goes-removal : (w : List ℕ) (j k : ℕ) → (k ≢ j) → GoesHome fine t w k → GoesHome fine t (slice_set w j off) k
  goes-removal w j k other h =
      subst (λ p. AllByRecursion (λ q. fine (slice_set (slice_set w j off) k q)) (way t p)) (sym (get_or-set_other w j k off off other))
      (All-weaker (λ q. fine (slice_set w k q)) (λ q. fine (slice_set (slice_set w j off) k q)) (λ q ok. subst fine (set_comm w k j q off other) (removal (slice_set w k q) j ok)) (way t (slice_index_or w k off)) h)

  order-removal : (w : List ℕ) (j : ℕ) (ks : List ℕ) → AllGoHome fine t w ks → HasOrder fine t (slice_set w j off)
  order-removal w j [] none = ([], λ k on. none k (still-on w j k on).1)
  order-removal w j (k ∷ ks) h = ⊎_elim
      (λ same. (ks, subst (λ i. AllGoHome fine t (slice_set w i off) ks) same h.2))
      (λ (other : k ≡ j → ⊥).
      let rest = order-removal (slice_set w k off) j ks h.2 in
      (k ∷ rest.0, ((λ e. h.0 (sym (get_or-set_other w j k off off other) ∙ e)), goes-removal w j k other h.1, subst (λ v. AllGoHome fine t v rest.0) (set_comm w k j off off other) rest.1)))
      (cases_eq k j)

  -- taking a piece off leaves an order
  pub has-removal : (w : List ℕ) (j : ℕ) → HasOrder fine t w → HasOrder fine t (slice_set w j off)
  has-removal w j h = order-removal w j h.0 h.1

  -- whoever can go home can go first
  pub goes_first : (w : List ℕ) (k : ℕ) → On w k → GoesHome fine t w k → HasOrder fine t w → CanGoFirst fine t w k
  goes_first w k on goes h = let rest = has-removal w k h in (rest.0, (on, goes, rest.1))

module _ (fine : List ℕ → Type 0) (t : Plan) (w : List ℕ) where
  -- an order of the others is one with k first
  pub goes_back : (k : ℕ) → On w k → GoesHome fine t w k → HasOrder fine t (slice_set w k off) → HasOrder fine t w
  goes_back k on goes h = (k ∷ h.0, (on, goes, h.1))

  -- where nobody can go home, only nobody is in order
  pub stuck-order : Stuck fine t w → HasOrder fine t w → (k : ℕ) → On w k → ⊥
  stuck-order stuck h = by h.0 h.1
    where
      by : (ks : List ℕ) → AllGoHome fine t w ks → (k : ℕ) → On w k → ⊥
      by [] none = none
      by (j ∷ ks) all = λ k on. stuck j all.0 all.1
