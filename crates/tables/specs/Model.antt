-- What the tables of a show mean, over plain lists.
use Rattle.std.specs.Prelude.{ℕ, ◌+◌, List, [], ◌∷◌, map, take, drop}
use Rattle.tables.specs.declared.nexts.Nexts.{Nexts}
use Rattle.tables.specs.declared.position.Position.{Position}
use Rattle.tables.specs.declared.route.Route.{Route}

-- a position: its next positions as they were named, and what it needs of each resource by number
pub record Pos : Type 0 where
  pub nexts : List ℕ
  pub needs : List ℕ

abbrev pub nexts_of : Nexts → List ℕ
nexts_of n = take n.count n.items

abbrev pub pos_of : Position → Pos
pos_of p = record { nexts = nexts_of p.nexts; needs = p.needs }

abbrev pub positions_of : List Position → List Pos
positions_of ps = map pos_of ps

abbrev pub counts_of : List Route → List ℕ
counts_of rs = map (λ r. r.count) rs

abbrev pub firsts_of : List Route → List ℕ
firsts_of rs = map (λ r. r.first) rs

-- where routes of so many positions begin, the first of them at position f
abbrev pub starts : ℕ → List ℕ → List ℕ
starts f [] = []
starts f (n ∷ ns) = f ∷ starts (f + n) ns

-- a route with its positions, of which there are to be `count`
pub record Chunk : Type 0 where
  pub first : ℕ
  pub count : ℕ
  pub positions : List Pos

-- all positions, shared out to routes of so many positions each
abbrev pub chunks : ℕ → List ℕ → List Pos → List Chunk
chunks f [] ps = []
chunks f (n ∷ ns) ps = record { first = f; count = n; positions = take n ps } ∷ chunks (f + n) ns (drop n ps)
