use Rattle.std.proofs.Common.{◌≡◌, ◌++◌, length, vec_items}
use Rattle.case_lines.specs.Hex.{hex}
use Rattle.case_lines.proofs.hex.decoded.Given as goal

-- the bytes so far are what the text has before the rest
abbrev pub invariant-loop-rest : goal.invariant-loop-rest
invariant-loop-rest l = l.text ≡ hex (vec_items l.bytes) ++ l.rest

abbrev pub decreases-loop-rest : goal.decreases-loop-rest
decreases-loop-rest l = length l.rest
