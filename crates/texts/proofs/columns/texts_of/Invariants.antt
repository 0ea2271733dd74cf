use Rattle.std.proofs.Common.{◌≡◌, ◌++◌, map, vec_items, string_bytes}
use Rattle.std.specs.Slice.Iter.{iter_rest}
use Rattle.std.specs.Iterator.Adapters.{zip_first, zip_second}
use Rattle.std.specs.List.{zip}
use Rattle.texts.specs.Texts.{told}
use Rattle.texts.proofs.columns.texts_of.Given as goal

-- what there is so far, and what the rest of the pairs add
abbrev pub invariant-loop-name : goal.invariant-loop-name
invariant-loop-name g l =
    map string_bytes (vec_items l.texts) ++ told g.T.Told.amount g.T.Told.text (zip (iter_rest (zip_first l.name-iterator)) (iter_rest (zip_second l.name-iterator))) ≡ told g.T.Told.amount g.T.Told.text (zip l.names l.amounts)
