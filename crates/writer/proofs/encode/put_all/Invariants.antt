use Rattle.std.proofs.Common.{take}
use Rattle.std.specs.List.{flat_map}
use Rattle.writer.specs.Puts.{Appends}
use Rattle.writer.proofs.encode.put_all.Given as goal

abbrev pub invariant-loop-part : goal.invariant-loop-part
invariant-loop-part g l = Appends (flat_map (g.T.Encode.layout) (take l.part-index l.parts)) l.initial.out l.out
