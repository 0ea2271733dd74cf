-- Placings: a number for each of 64 pieces, its position, or 65535 for off.
use Rattle.std.specs.Prelude.{ℕ, cond, List, sum_by, ◌==◌, slice_index_or, slice_set}
use Rattle.std.specs.Option.{unwrap_or}
use Rattle.tables.specs.Plan.{Plan}
use Rattle.figures.specs.Way.{main, way_length}

abbrev pub off : ℕ
off = 65535

-- a figure of a piece's position, 0 if the piece is off
abbrev pub if_on : (ℕ → ℕ) → ℕ → ℕ
if_on f p = cond (p == off) 0 (f p)

-- where a step home takes a piece from p: to its main next, or off
abbrev pub stepped : Plan → ℕ → ℕ
stepped t p = unwrap_or (main t p) off

-- the placing after piece k's step home
abbrev pub home_step : Plan → List ℕ → ℕ → List ℕ
home_step t w k = slice_set w k (stepped t (slice_index_or w k off))

-- the distance home: the lengths of the ways home of all pieces on
abbrev pub distance : Plan → List ℕ → ℕ
distance t w = sum_by (if_on (way_length t)) w
