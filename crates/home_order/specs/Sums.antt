-- What the rule keeps up while pieces are taken off, and what it compares.
use Rattle.std.specs.Prelude.{◌≡◌, ℕ, ◌+◌, ◌<◌, ◌≤◌, List, slice_index}
use Rattle.tables.specs.Plan.{Plan, kinds, capacity, need}
use Rattle.figures.specs.Claims.{peak}
use Rattle.rules.specs.Placing.{held}

-- the sums are what the pieces on hold of each resource
abbrev pub SumsOf : Plan → List ℕ → List ℕ → Type 0
SumsOf t w sums = (r : ℕ) → r < kinds t → slice_index sums r ≡ held t r w

-- the peak needs from p on are within the capacities, beside what is held without p's needs
abbrev pub PeaksFit : Plan → List ℕ → ℕ → Type 0
PeaksFit t sums p = (r : ℕ) → r < kinds t → slice_index sums r + peak t r p ≤ capacity t r + need t p r

-- the needs of p are taken from the sums
abbrev pub Less : Plan → ℕ → List ℕ → List ℕ → Type 0
Less t p sums after = (r : ℕ) → r < kinds t → slice_index after r + need t p r ≡ slice_index sums r
