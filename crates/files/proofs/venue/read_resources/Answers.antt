use Rattle.std.proofs.Common.{[], sym, ap, ◌∙◌, arith}
use Rattle.std.proofs.ByRecursion.{All-from_get_or}
use Rattle.std.proofs.lemmas.Result.{err_from_is_err_and}
use Rattle.fields.specs.Fields.{part_of, tag_of}
use Rattle.fields.specs.declared.spot.File.TheVariants.{Venue}
use Rattle.layout.proofs.Fronts.{Byte}
use Rattle.layout.proofs.VenueLaw.{venue-only}
use Rattle.files.proofs.Standings.{head-bad, read-bad, end-good, end-bad}
use Rattle.files.proofs.VenueTurns.{start, ask, again}
use Rattle.files.proofs.venue.read_resources.Goals as goal

pub returns-in_err-next : goal.returns-in_err-next
returns-in_err-next c =
    let q = err_from_is_err_and c.from_residual.result c.from_residual.ensures.1 in
    rw (q.1, q.2) (head-bad Venue [] _ _ c.over-reader.ensures _ (sym c.in_err-next.ensures.found))

pub loop-capacity-init : goal.loop-capacity-init
loop-capacity-init c =
    let n = c.in_ok-next.ensures in
    start _ c.over-reader.result c.next.new.self c.args.resources.now _ c.over-reader.ensures n.found n.moved c.requires.0 c.requires.1

pub returns-in_err-capacity : goal.returns-in_err-capacity
returns-in_err-capacity c =
    let q = err_from_is_err_and c.from_residual-in_err-capacity.result c.from_residual-in_err-capacity.ensures.1 in
    rw (q.1, q.2) (read-bad (ask c.loop-capacity.invariant _ _ c.turn_after.ensures c.len.ensures) _ (sym c.in_err-capacity.ensures.found))

pub loop-capacity-preserved : goal.loop-capacity-preserved
loop-capacity-preserved c =
    let n = c.in_ok-capacity.ensures in
    let is = c.in-Resource.is in
    let pushed = c.push_reserved.ensures in
    again c.loop-capacity.invariant (ask c.loop-capacity.invariant _ _ c.turn_after.ensures c.len.ensures) _ n.found _ _ _
    (ap tag_of (sym is) ∙ n.shape.0) (ap part_of is) _ c.len-in-Resource.ensures c.next-in-loop-capacity.new.self c.push_reserved.new.self
    c.if-is_full.ensures n.moved pushed.len pushed.capacity
    pushed.items

pub returns-in_err-close-in-End : goal.returns-in_err-close-in-End
returns-in_err-close-in-End c =
    let n = c.in_ok-capacity.ensures in
    let q = err_from_is_err_and c.from_residual-in_err-close-in-End.result c.from_residual-in_err-close-in-End.ensures.1 in
    rw (q.1, q.2)
    (end-bad (ask c.loop-capacity.invariant _ _ c.turn_after.ensures c.len.ensures) _ (sym n.found) (ap tag_of (sym c.in-End.is) ∙ n.shape.0) _ n.moved _ (sym c.in_err-close-in-End.ensures))

pub returns-in-End : goal.returns-in-End
returns-in-End c =
    let n = c.in_ok-capacity.ensures in
    let bs = c.args.bytes.now in
    let e = end-good (ask c.loop-capacity.invariant _ _ c.turn_after.ensures c.len.ensures) _ (sym n.found) (ap tag_of (sym c.in-End.is) ∙ n.shape.0) _ n.moved _ (sym c.in_ok-close-in-End.ensures) in
    venue-only bs _ [] [] (All-from_get_or Byte bs 0 (λ i lt. omega (arith, c.type_inv.bytes i))) e
