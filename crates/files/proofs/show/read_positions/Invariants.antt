use Rattle.std.proofs.Common.{◌-◌, vec_items, vec_len, vec_capacity}
use Rattle.fields.specs.Fields.{point_of}
use Rattle.tables.specs.Model.{positions_of}
use Rattle.files.specs.Steps.{show_at}
use Rattle.files.proofs.RouteTurns.{Going}
use Rattle.files.proofs.show.read_positions.Given as goal

abbrev pub invariant-loop-own : goal.invariant-loop-own
invariant-loop-own l =
    Going l.resources (λ ns. show_at l.resources ns (positions_of (vec_items l.initial.positions)) (l.end - vec_len l.initial.positions) (point_of l.initial.reader))
    l.end l.own (vec_capacity l.initial.positions) l.reader l.positions
