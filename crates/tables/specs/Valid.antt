-- Which tables are valid.
use Rattle.std.specs.Prelude.{ℕ, ◌+◌, Bool, true, false, not, ◌&&◌, ◌||◌, List, [], ◌∷◌, map, length, sum, ◌==◌, nat_le, nat_lt, slice_index}
use Rattle.tables.specs.declared.resource.Resource.{Resource}
use Rattle.tables.specs.Model.{Pos, Chunk, chunks}

abbrev pub every : {X : Type 0} → (X → Bool) → List X → Bool
every p [] = true
every p (x ∷ xs) = p x && every p xs

-- a number of one byte, and one of two
abbrev pub byte : ℕ → Bool
byte n = nat_lt n 256

abbrev pub short : ℕ → Bool
short n = nat_lt n 65536

-- a capacity of 1 to 65,535, any order, a name of eight bytes
abbrev pub valid_resource : Resource → Bool
valid_resource r = nat_le 1 r.capacity && (short r.capacity && (byte r.order && (length r.name == 8 && every byte r.name)))

-- 1 to 16 resources
abbrev pub valid_venue : List Resource → Bool
valid_venue rs = nat_le 1 (length rs) && (nat_le (length rs) 16 && every valid_resource rs)

abbrev pub has : ℕ → List ℕ → Bool
has x [] = false
has x (y ∷ ys) = y == x || has x ys

-- each is beyond the position itself, before the end of its route, and named once
abbrev pub nexts_ok : ℕ → ℕ → List ℕ → Bool
nexts_ok own end [] = true
nexts_ok own end (q ∷ qs) = (nat_lt own q && nat_lt q end) && (not (has q qs) && nexts_ok own end qs)

-- at most four next positions, and sixteen needs of two bytes
abbrev pub valid_position : ℕ → ℕ → Pos → Bool
valid_position own end x = nat_le (length x.nexts) 4 && (nexts_ok own end x.nexts && (length x.needs == 16 && every short x.needs))

-- positions from number `own` on, of a route that ends before `end`
abbrev pub valid_positions : ℕ → ℕ → List Pos → Bool
valid_positions own end [] = true
valid_positions own end (x ∷ xs) = valid_position own end x && valid_positions (own + 1) end xs

abbrev pub valid_chunk : Chunk → Bool
valid_chunk c = nat_le 1 c.count && valid_positions c.first (c.first + c.count) c.positions

-- 1 to 16 routes of at least one position, to which all positions, at most 128, are shared out
abbrev pub valid_show : List ℕ → List Pos → Bool
valid_show ns ps =
    nat_le 1 (length ns) && (nat_le (length ns) 16 && (sum ns == length ps && (nat_le (length ps) 128 && every valid_chunk (chunks 0 ns ps))))

-- how much the venue has of a resource, 0 of one that it has not
abbrev pub capacity_at : List Resource → ℕ → ℕ
capacity_at rs i = slice_index (map (λ r. r.capacity) rs) i

-- no need, from resource i on, is above what the venue has
abbrev pub needs_fit : List Resource → ℕ → List ℕ → Bool
needs_fit rs i [] = true
needs_fit rs i (a ∷ needs) = nat_le a (capacity_at rs i) && needs_fit rs (i + 1) needs

abbrev pub fits_venue : List Resource → List Pos → Bool
fits_venue rs ps = every (λ x. needs_fit rs 0 x.needs) ps
