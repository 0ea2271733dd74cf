-- What tables mean to the layers above, over plain lists.
use Rattle.std.specs.Prelude.{ℕ, List, [], map, length, slice_index, slice_index_or}
use Rattle.tables.specs.declared.tables.Tables.{Tables}
use Rattle.tables.specs.Model.{starts}
use Rattle.tables.specs.Contents.{Contents, contents}

-- by resource: capacities and orders; by route: first positions; by position: next positions as named, needs by resource
pub record Plan : Type 0 where
  pub capacities : List ℕ
  pub orders : List ℕ
  pub firsts : List ℕ
  pub nexts : List (List ℕ)
  pub needs : List (List ℕ)

abbrev pub plan_of : Contents → Plan
plan_of c = record {
  capacities = map (λ r. r.capacity) c.resources;
  orders = map (λ r. r.order) c.resources;
  firsts = starts 0 c.counts;
  nexts = map (λ x. x.nexts) c.positions;
  needs = map (λ x. x.needs) c.positions;
}

abbrev pub plan : Tables → Plan
plan t = plan_of (contents t)

-- how many resources, routes and positions there are
abbrev pub kinds : Plan → ℕ
kinds t = length t.capacities

abbrev pub routes : Plan → ℕ
routes t = length t.firsts

abbrev pub count : Plan → ℕ
count t = length t.nexts

-- 0 for a resource, a route or a position that there is not, and no next position
abbrev pub capacity : Plan → ℕ → ℕ
capacity t r = slice_index t.capacities r

abbrev pub order : Plan → ℕ → ℕ
order t r = slice_index t.orders r

abbrev pub first : Plan → ℕ → ℕ
first t j = slice_index t.firsts j

abbrev pub next : Plan → ℕ → List ℕ
next t p = slice_index_or t.nexts p []

abbrev pub need : Plan → ℕ → ℕ → ℕ
need t p r = slice_index (slice_index_or t.needs p []) r
