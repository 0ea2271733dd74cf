-- Placings: which lists of numbers are one, who is on, what is held and claimed, and when it fits.
use Rattle.std.specs.Prelude.{◌≡◌, ℕ, ◌<◌, ◌≤◌, List, length, replicate, sum_by, slice_index_or}
use Rattle.tables.specs.Plan.{Plan, kinds, count, capacity, need}
use Rattle.figures.specs.Placing.{off, if_on}

-- piece k is on
abbrev pub On : List ℕ → ℕ → Type 0
On w k = slice_index_or w k off ≡ off → ⊥

-- each number is a position or off
abbrev pub Placed : Plan → List ℕ → Type 0
Placed t w = (k : ℕ) → On w k → slice_index_or w k off < count t

-- a placing: 64 numbers, each a position or off
abbrev pub Formed : Plan → List ℕ → Type 0
Formed t w = (length w ≡ 64) × Placed t w

-- the empty placing
abbrev pub nobody : List ℕ
nobody = replicate 64 off

-- a figure of a position, added up over the pieces on
abbrev pub total : (ℕ → ℕ) → List ℕ → ℕ
total f w = sum_by (if_on f) w

-- how many pieces are on
abbrev pub on_count : List ℕ → ℕ
on_count w = total (λ _. 1) w

-- for each resource an amount, added up over the pieces on, comes to at most the capacity
abbrev pub Within : Plan → (ℕ → ℕ → ℕ) → List ℕ → Type 0
Within t amount w = (r : ℕ) → r < kinds t → total (amount r) w ≤ capacity t r

-- what the pieces on hold of r
abbrev pub held : Plan → ℕ → List ℕ → ℕ
held t r w = total (λ p. need t p r) w

abbrev pub Fits : Plan → List ℕ → Type 0
Fits t w = Within t (λ r p. need t p r) w

-- the placings that the room rule allows
abbrev pub Roomy : Plan → List ℕ → Type 0
Roomy t w = Formed t w × Fits t w
