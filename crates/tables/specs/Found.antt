-- What is found at a place of a table.
use Rattle.std.specs.Prelude.{ℕ, List, [], map, Some, None, Option, slice_index_or}
use Rattle.std.specs.Borrow.{Bor}
use Rattle.tables.specs.declared.position.Position.{Position}
use Rattle.tables.specs.Model.{positions_of}

-- a part of what was found, e where nothing was
abbrev pub part_or : {X Y : Type 0} → Option (Bor X) → (X → Y) → Y → Y
part_or None f e = e
part_or (Some x) f e = f x.now

-- past the end of a table, nothing
abbrev pub nexts_at : List Position → ℕ → List ℕ
nexts_at ps i = slice_index_or (map (λ x. x.nexts) (positions_of ps)) i []

abbrev pub needs_at : List Position → ℕ → List ℕ
needs_at ps i = slice_index_or (map (λ x. x.needs) (positions_of ps)) i []
