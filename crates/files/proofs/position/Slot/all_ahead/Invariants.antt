use Rattle.std.proofs.Common.{◌≡◌, length}
use Rattle.tables.specs.Valid.{nexts_ok}
use Rattle.files.proofs.position.Slot.all_ahead.Given as goal

abbrev pub invariant-loop-left : goal.invariant-loop-left
invariant-loop-left l = nexts_ok l.self.own l.self.end l.left ≡ nexts_ok l.self.own l.self.end l.nexts

abbrev pub decreases-loop-left : goal.decreases-loop-left
decreases-loop-left l = length l.left
