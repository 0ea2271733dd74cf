use Rattle.std.proofs.Common.{take}
use Rattle.layout.specs.Layout.{need_fields}
use Rattle.writer.specs.Puts.{Appends}
use Rattle.writer.proofs.position.put_needs.Given as goal

abbrev pub invariant-loop-i : goal.invariant-loop-i
invariant-loop-i l = Appends (need_fields 0 (take l.i l.needs)) l.initial.out l.out
