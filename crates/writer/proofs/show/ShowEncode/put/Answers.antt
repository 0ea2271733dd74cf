use Rattle.std.proofs.Common.{◌++◌, length, take, drop, ap, ◌∙◌, arith, length-append}
use Rattle.layout.specs.Layout.{end_field}
use Rattle.writer.proofs.Joins.{appends_none, appends_then, fits_next}
use Rattle.writer.proofs.Shows.{whole_of, file_of, begun, room-front, again, through}
use Rattle.writer.proofs.show.ShowEncode.put.Goals as goal

pub loop-route-init : goal.loop-route-init
loop-route-init c =
    let s = c.args.self.now in
    let rest = fits_next (whole_of s ++ end_field) (length (file_of s)) (omega arith) c.requires c.put.ensures in
    begun s _ _ _ c.deref-route-items.ensures.value c.as_slice-left.ensures.value (appends_none _ rest)

pub put_all-requires : goal.put_all-requires
put_all-requires c =
    let s = c.args.self.now in
    let g = c.loop-route.invariant in
    let front = c.split_at.ensures.front ∙ ap (λ n. take n c.loop-route.left.now) c.from.ensures in
    let back = c.split_at.ensures.back ∙ ap (λ n. drop n c.loop-route.left.now) c.from.ensures in
    let rest = fits_next (whole_of s ++ end_field) (length (file_of s)) (omega arith) c.requires c.put.ensures in
    fits_next _ (length (whole_of s ++ end_field)) (omega (arith, room-front g c.loop-route-test.true _ _ front back, length-append (whole_of s) end_field)) rest (appends_then g.puts c.put-in-loop-route.ensures)

pub loop-route-preserved : goal.loop-route-preserved
loop-route-preserved c =
    let front = c.split_at.ensures.front ∙ ap (λ n. take n c.loop-route.left.now) c.from.ensures in
    let back = c.split_at.ensures.back ∙ ap (λ n. drop n c.loop-route.left.now) c.from.ensures in
    again c.loop-route.invariant c.loop-route-test.true _ _ front back _ _ c.put-in-loop-route.ensures c.put_all.ensures

pub returns : goal.returns
returns c = appends_then c.put.ensures (appends_then (through c.loop-route.invariant c.loop-route-test.false) c.put-2.ensures)
