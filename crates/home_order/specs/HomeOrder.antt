-- The home-order rule: the pieces can go home one after another.
use Rattle.std.specs.Prelude.{ℕ, ◌<◌, List, [], ◌∷◌, Some, None, Option, slice_index_or, slice_set}
use Rattle.std.specs.List.{AllByRecursion}
use Rattle.tables.specs.Plan.{Plan}
use Rattle.figures.specs.Way.{way}
use Rattle.figures.specs.Placing.{off}
use Rattle.rules.specs.Placing.{On, Fits, Roomy}

-- piece k goes its whole way home, the others standing still, and every placing on the way is fine
abbrev pub GoesHome : (List ℕ → Type 0) → Plan → List ℕ → ℕ → Type 0
GoesHome fine t w k = AllByRecursion (λ q. fine (slice_set w k q)) (way t (slice_index_or w k off))

-- the pieces on, in this order, go home one after another, the later ones standing still
abbrev pub AllGoHome : (List ℕ → Type 0) → Plan → List ℕ → List ℕ → Type 0
AllGoHome fine t w [] = (k : ℕ) → On w k → ⊥
AllGoHome fine t w (k ∷ ks) = On w k × GoesHome fine t w k × AllGoHome fine t (slice_set w k off) ks

-- there is such an order
abbrev pub HasOrder : (List ℕ → Type 0) → Plan → List ℕ → Type 0
HasOrder fine t w = (ks : List ℕ) × AllGoHome fine t w ks

-- there is such an order with k first
abbrev pub CanGoFirst : (List ℕ → Type 0) → Plan → List ℕ → ℕ → Type 0
CanGoFirst fine t w k = (ks : List ℕ) × AllGoHome fine t w (k ∷ ks)

-- the placings that the home-order rule allows
abbrev pub HomeOrder : Plan → List ℕ → Type 0
HomeOrder t w = Roomy t w × HasOrder (Fits t) t w

-- it names the lowest-numbered piece that can go first
abbrev pub HomeOrderNames : Plan → List ℕ → Option ℕ → Type 0
HomeOrderNames t w None = HomeOrder t w → (k : ℕ) → On w k → ⊥
HomeOrderNames t w (Some k) = HomeOrder t w × CanGoFirst (Fits t) t w k × ((j : ℕ) → j < k → CanGoFirst (Fits t) t w j → ⊥)
