use Rattle.std.proofs.Common.{◌≡◌, ◌-◌, ◌<◌, length, Some, None, sym, ap, ◌∙◌, arith, rules}
use Rattle.tables.specs.Plan.{plan, count}
use Rattle.figures.specs.Way.{main, figure}
use Rattle.figures.proofs.Sounds.{sound}
use Rattle.figures.proofs.Ways.{main-ahead, filled_more, figure-last, figure-before}
use Rattle.figures.proofs.figure.fill.Goals as goal
use Rattle.figures.proofs.figure.fill.Goals.{in-Some, in-None}

pub bounds-row-q : goal.bounds-row-q
bounds-row-q g c =
    let t = c.args.tables.now in
    let e : main (plan t) (c.loop-p.p - 1) ≡ Some c.in-Some.q = sym c.main_next.ensures ∙ c.in-Some.is in
    omega (arith, (main-ahead (plan t) (sound t) _ _ e).1)

pub offset_bounds-row-q : goal.offset_bounds-row-q
offset_bounds-row-q g c =
    let h : c.in-Some.q < length c.loop-p.row = bounds-row-q g c in search rules

pub before-requires : goal.before-requires
before-requires g c =
    let t = c.args.tables.now in
    let e : main (plan t) (c.loop-p.p - 1) ≡ Some c.in-Some.q = sym c.main_next.ensures ∙ c.in-Some.is in
    let to = main-ahead (plan t) (sound t) _ _ e in
    record {
      suits = c.requires.suits;
      within = omega arith;
      known = (c.in-Some.q, e, c.index-row-q.is ∙ c.loop-p.invariant.done _ _ (omega (arith, to.0)) to.1);
    }

pub loop-p-preserved : goal.loop-p-preserved
loop-p-preserved g c =
    let t = c.args.tables.now in
    let at = c.loop-p.p - 1 in
    let last = g.F.Figure.ending c.args.kind.now (plan t) in
    let before = g.F.Figure.leading c.args.kind.now (plan t) in
    let h : at < count (plan t) = omega arith in
    let here : c.match-main_next.row ≡ figure (plan t) last before at =
    elim c.match-main_next.branch [
      | in-Some w ↦
          let e : main (plan t) at ≡ Some w.in-Some.q = sym c.main_next.ensures ∙ w.in-Some.is in
          let to = main-ahead (plan t) (sound t) _ _ e in
          let read = w.index-row-q.is ∙ c.loop-p.invariant.done _ _ (omega (arith, to.0)) to.1 in
          w.row-is ∙ w.before-in-Some.ensures ∙ ap (before at) read ∙ sym (figure-before (plan t) (sound t) last before at _ h e)
      | in-None w ↦
          let e : main (plan t) at ≡ None = sym c.main_next.ensures ∙ w.in-None.is in
          w.row-is ∙ w.last.ensures ∙ sym (figure-last (plan t) (sound t) last before at h e)
    ] in
    filled_more (plan t) last before c.args.row.now c.loop-p.p c.loop-p.row c.match-main_next.row (omega arith) (omega arith) (omega arith) here c.loop-p.invariant
