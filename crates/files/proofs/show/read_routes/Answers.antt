use Rattle.std.proofs.Common.{vec_items, sym, ap, ◌∙◌, arith}
use Rattle.std.proofs.ByRecursion.{All-from_get_or}
use Rattle.std.proofs.lemmas.Result.{err_from_is_err_and}
use Rattle.fields.specs.Fields.{part_of, tag_of}
use Rattle.fields.specs.declared.spot.File.TheVariants.{Show}
use Rattle.tables.specs.Model.{counts_of}
use Rattle.layout.proofs.Fronts.{Byte}
use Rattle.layout.proofs.ShowOnly.{show-only}
use Rattle.files.proofs.Standings.{head-bad, read-bad, end-good, end-bad, carried}
use Rattle.files.proofs.ShowTurns.{start, ask, full, broke, again}
use Rattle.files.proofs.show.read_routes.Goals as goal

pub returns-in_err-table_field : goal.returns-in_err-table_field
returns-in_err-table_field c =
    let q = err_from_is_err_and c.from_residual.result c.from_residual.ensures.1 in
    rw (q.1, q.2) (carried _ _ (head-bad Show _ _ _ c.over-reader.ensures) _ c.in_err-table_field.ensures.found)

pub loop-count-init : goal.loop-count-init
loop-count-init c =
    let n = c.in_ok-table_field.ensures in
    let pre = c.requires in
    start _ _ c.over-reader.result c.table_field.new.reader c.args.routes.now c.args.positions.now _ c.over-reader.ensures n.found n.moved.0 pre.1.0 pre.1.1.0 pre.1.1.1.0 pre.1.1.1.1

pub returns-in_err-count : goal.returns-in_err-count
returns-in_err-count c =
    let q = err_from_is_err_and c.from_residual-in_err-count.result c.from_residual-in_err-count.ensures.1 in
    rw (q.1, q.2) (carried _ _ (read-bad (ask c.loop-count.invariant _ _ c.turn_after.ensures c.len.ensures)) _ c.in_err-count.ensures.found)

pub returns-then-too_many : goal.returns-then-too_many
returns-then-too_many c =
    let n = c.in_ok-count.ensures in
    let is = c.in-Route.is in
    full c.loop-count.invariant (ask c.loop-count.invariant _ _ c.turn_after.ensures c.len.ensures) _ n.found _ (ap tag_of (sym is) ∙ n.moved.1.0) (ap part_of is)
    _ _ c.len-in-Route.ensures c.len-first.ensures _ (rw c.from.ensures at c.if-too_many.ensures) c.spot-spot.ensures

pub loop-count-preserved : goal.loop-count-preserved
loop-count-preserved c =
    let n = c.in_ok-count.ensures in
    let is = c.in-Route.is in
    let pushed = c.push_reserved.ensures in
    let ran = c.in_ok-read_positions-in-Route.ensures in
    again c.loop-count.invariant (ask c.loop-count.invariant _ _ c.turn_after.ensures c.len.ensures) _ n.found _ (ap tag_of (sym is) ∙ n.moved.1.0) (ap part_of is)
    _ _ c.len-in-Route.ensures c.len-first.ensures (rw c.from.ensures at c.if-too_many.ensures)
    c.table_field-in-loop-count.new.reader n.moved.0 c.push_reserved.new.self pushed.len pushed.capacity pushed.items
    c.read_positions.new.reader c.read_positions.new.positions (rw c.from.ensures at (ran.went (counts_of (vec_items c.push_reserved.new.self)))) (rw c.from.ensures at ran.kept.0) ran.kept.1 ran.kept.2

pub returns-in_err-read_positions-in-Route : goal.returns-in_err-read_positions-in-Route
returns-in_err-read_positions-in-Route c =
    let n = c.in_ok-count.ensures in
    let is = c.in-Route.is in
    let pushed = c.push_reserved.ensures in
    let q = err_from_is_err_and c.from_residual-in_err-read_positions-in-Route.result c.from_residual-in_err-read_positions-in-Route.ensures.1 in
    rw (q.1, q.2)
    (broke c.loop-count.invariant (ask c.loop-count.invariant _ _ c.turn_after.ensures c.len.ensures) _ n.found _ (ap tag_of (sym is) ∙ n.moved.1.0) (ap part_of is)
    _ _ c.len-in-Route.ensures c.len-first.ensures (rw c.from.ensures at c.if-too_many.ensures)
    c.table_field-in-loop-count.new.reader n.moved.0 c.push_reserved.new.self pushed.len pushed.capacity pushed.items
    _ (rw c.from.ensures at (c.in_err-read_positions-in-Route.ensures.went (counts_of (vec_items c.push_reserved.new.self)))))

pub returns-in_err-table_close-in-End : goal.returns-in_err-table_close-in-End
returns-in_err-table_close-in-End c =
    let n = c.in_ok-count.ensures in
    let q = err_from_is_err_and c.from_residual-in_err-table_close-in-End.result c.from_residual-in_err-table_close-in-End.ensures.1 in
    rw (q.1, q.2)
    (carried _ _ (end-bad (ask c.loop-count.invariant _ _ c.turn_after.ensures c.len.ensures) _ n.found (ap tag_of (sym c.in-End.is) ∙ n.moved.1.0) _ n.moved.0) _ c.in_err-table_close-in-End.ensures)

pub returns-in-End : goal.returns-in-End
returns-in-End c =
    let n = c.in_ok-count.ensures in
    let bs = c.args.bytes.now in
    let e = end-good (ask c.loop-count.invariant _ _ c.turn_after.ensures c.len.ensures) _ n.found (ap tag_of (sym c.in-End.is) ∙ n.moved.1.0) _ n.moved.0 _ c.in_ok-table_close-in-End.ensures in
    let s = show-only c.args.resources.now c.requires.0 bs _ _ _ (All-from_get_or Byte bs 0 (λ i lt. omega (arith, c.type_inv.bytes i))) e in
    record { valid = s.0; firsts = c.loop-count.invariant.firsts; fits = s.1; laid = s.2 }
