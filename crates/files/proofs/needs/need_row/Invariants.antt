use Rattle.std.proofs.Common.{◌≡◌, ◌-◌, ◌++◌, length, take}
use Rattle.layout.specs.Rules.{row_of_needs}
use Rattle.files.proofs.needs.need_row.Given as goal

abbrev pub invariant-loop-i : goal.invariant-loop-i
invariant-loop-i l = (length l.amount-items ≡ 16) × (take l.i l.amount-items ++ row_of_needs (16 - l.i) l.i l.left ≡ row_of_needs 16 0 l.needs)
