use Rattle.tables.specs.Plan.{plan}
use Rattle.figures.proofs.Ways.{FilledFrom}
use Rattle.figures.proofs.figure.fill.Given as goal

abbrev pub invariant-loop-p : goal.invariant-loop-p
invariant-loop-p g l =
    let f = g.F.Figure in
    let t = plan l.tables in
    FilledFrom t (f.ending l.kind t) (f.leading l.kind t) l.initial.row l.p l.row
