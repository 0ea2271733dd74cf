-- The lines of a run: what a line of input says, and what a line of output shows.
use Rattle.std.specs.Prelude.{◌≡◌, ℕ, ◌+◌, ◌-◌, ◌*◌, ◌≤◌, List, ◌∷◌, ◌++◌, length, codes, fold}
use Rattle.std.specs.List.{AllByRecursion}
use Rattle.history.specs.declared.calls.Call.{Call}
use Rattle.history.specs.declared.calls.Call.TheVariants.{Start, Move, Leave, Clear}

-- a digit, in ASCII
abbrev pub Digit : ℕ → Type 0
Digit d = (48 ≤ d) × (d ≤ 57)

abbrev pub value : List ℕ → ℕ
value ds = fold (λ n d. n * 10 + (d - 48)) 0 ds

-- n is written as these 1 to 5 digits
pub record Number (ds : List ℕ) (n : ℕ) : Type 0 where
  pub digits : AllByRecursion Digit ds
  pub some : 1 ≤ length ds
  pub few : length ds ≤ 5
  pub is : n ≡ value ds

abbrev pub space : ℕ
space = 32

-- two numbers with one space between
abbrev pub Numbers : List ℕ → ℕ → ℕ → Type 0
Numbers text k j = (a b : List ℕ) × (text ≡ a ++ space ∷ b) × Number a k × Number b j

-- what a line says: a word, and its numbers, each behind one space
abbrev pub Says : List ℕ → Call → Type 0
Says line (Start k j) = (text : List ℕ) × (line ≡ codes "start " ++ text) × Numbers text k j
Says line (Move k p) = (text : List ℕ) × (line ≡ codes "move " ++ text) × Numbers text k p
Says line (Leave k) = (text : List ℕ) × (line ≡ codes "leave " ++ text) × Number text k
Says line Clear = line ≡ codes "clear"
