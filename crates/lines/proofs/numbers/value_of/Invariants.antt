use Rattle.std.proofs.Common.{◌≡◌, ◌+◌, ◌^◌, ◌≤◌, take}
use Rattle.std.specs.List.{AllByRecursion as All}
use Rattle.lines.specs.Lines.{Digit, value}
use Rattle.lines.proofs.numbers.value_of.Given as goal

abbrev pub invariant-loop-d : goal.invariant-loop-d
invariant-loop-d l = All Digit (take l.d-index l.digits) × (l.n ≡ value (take l.d-index l.digits)) × (l.n + 1 ≤ 10 ^ l.d-index)
