use Rattle.std.proofs.Common.{length, ap}
use Rattle.std.proofs.lemmas.List.{take_all}
use Rattle.std.specs.List.{flat_map}
use Rattle.writer.proofs.Joins.{appends_none, appends_then, appends-as, joined-item, part-fits, fits_next}
use Rattle.writer.proofs.encode.put_all.Goals as goal

pub loop-part-init : goal.loop-part-init
loop-part-init g c = appends_none _ c.requires

pub put-requires : goal.put-requires
put-requires g c =
    let parts = c.args.parts.now in
    fits_next (g.T.Encode.layout c.part-item.result) (length (flat_map g.T.Encode.layout parts)) (part-fits g.T.Encode.layout parts c.loop-part.part-index _ c.loop-part-test.true c.part-item.is) c.requires c.loop-part.invariant

pub loop-part-preserved : goal.loop-part-preserved
loop-part-preserved g c =
    appends-as (joined-item g.T.Encode.layout c.args.parts.now c.loop-part.part-index _ c.loop-part-test.true c.part-item.is)
    (appends_then c.loop-part.invariant c.put.ensures)

pub returns : goal.returns
returns g c = appends-as (ap (flat_map g.T.Encode.layout) (take_all c.loop-part.part-index c.args.parts.now c.loop-part-test.false)) c.loop-part.invariant
