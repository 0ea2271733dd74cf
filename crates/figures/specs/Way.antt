-- The way home of a position, and a figure worked out along it.
use Rattle.std.specs.Prelude.{◌≡◌, ℕ, zero, suc, ◌<◌, List, [], ◌∷◌, length, drop, Some, None, Option, slice_index, slice_index_or}
use Rattle.tables.specs.Plan.{Plan, count, next}

-- the first of a list
abbrev pub head : List ℕ → Option ℕ
head [] = None
head (q ∷ qs) = Some q

-- the main next of a position: where a piece goes on its way home; none for a last position
abbrev pub main : Plan → ℕ → Option ℕ
main t p = head (next t p)

abbrev pub from : Option ℕ → (ℕ → List ℕ) → List ℕ
from None rest = []
from (Some q) rest = q ∷ rest q

-- p's main next, its main next, and so on to a last position, at most n of them
abbrev pub onward : Plan → ℕ → ℕ → List ℕ
onward t zero p = []
onward t (suc n) p = from (main t p) (onward t n)

-- the way home of p after p itself; it has no more positions than the show
abbrev pub after : Plan → ℕ → List ℕ
after t p = onward t (count t) p

abbrev pub way : Plan → ℕ → List ℕ
way t p = p ∷ after t p

abbrev pub way_length : Plan → ℕ → ℕ
way_length t p = length (way t p)

-- a figure, from its value at a last position and its value before a known main next
abbrev pub along : {V : Type 0} → (ℕ → V) → (ℕ → V → V) → ℕ → List ℕ → V
along last before p [] = last p
along last before p (q ∷ qs) = before p (along last before q qs)

abbrev pub figure : {V : Type 0} → Plan → (ℕ → V) → (ℕ → V → V) → ℕ → V
figure t last before p = along last before p (after t p)

-- v is the figure at the main next of p
abbrev pub AtNext : {V : Type 0} → Plan → (ℕ → V) → (ℕ → V → V) → ℕ → V → Type 0
AtNext t last before p v = (q : ℕ) × (main t p ≡ Some q) × (v ≡ figure t last before q)

-- the row has the figure of each position, and behind those what it had before
pub record Filled {V : Type 0} (t : Plan) (last : ℕ → V) (before : ℕ → V → V) (old row : List V) : Type 0 where
  pub each : (p : ℕ) (d : V) → p < count t → slice_index_or row p d ≡ figure t last before p
  pub rest : drop (count t) row ≡ drop (count t) old

-- the row has the length of each position's way home
abbrev pub LengthsHeld : Plan → List ℕ → Type 0
LengthsHeld t row = (p : ℕ) → p < count t → slice_index row p ≡ way_length t p
