use Rattle.std.proofs.Common.{◌≡◌, map, take, vec_items, string_bytes, decimal}
use Rattle.texts.proofs.columns.decimals.Given as goal

abbrev pub invariant-loop-number : goal.invariant-loop-number
invariant-loop-number l = map string_bytes (vec_items l.texts) ≡ map decimal (take l.number-index l.numbers)
