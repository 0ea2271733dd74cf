use Rattle.std.proofs.Common.{◌≡◌, ◌∙◌, arith}
use Rattle.std.proofs.lemmas.Result.{err_from_is_err_and}
use Rattle.files.proofs.RouteTurns.{fault, again, through}
use Rattle.files.proofs.show.read_positions.Goals as goal

pub returns-in_err-position : goal.returns-in_err-position
returns-in_err-position c =
    let q = err_from_is_err_and c.from_residual.result c.from_residual.ensures.1 in
    rw (q.1, q.2) (record { went = fault c.loop-own.invariant c.loop-own-test.true _ c.in_err-position.ensures.found; kept = tt })

pub loop-own-preserved : goal.loop-own-preserved
loop-own-preserved c =
    let n = c.in_ok-position.ensures in
    let pushed = c.push_reserved.ensures in
    again c.loop-own.invariant c.loop-own-test.true _ _ c.push_reserved.new.self n.found n.moved pushed.len pushed.capacity pushed.items

pub returns : goal.returns
returns c =
    let g = c.loop-own.invariant in
    let all : c.loop-own.own ≡ c.args.end = omega arith in
    record { went = through g (omega arith); kept = (g.count ∙ all, g.space, g.file) }
