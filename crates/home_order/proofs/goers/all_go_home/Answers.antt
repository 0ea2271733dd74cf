use Rattle.std.proofs.Common.{[], get_or, ap, subst, arith}
use Rattle.tables.specs.Plan.{plan, need}
use Rattle.figures.specs.Placing.{off}
use Rattle.figures.proofs.Sounds.{sound}
use Rattle.rules.specs.Placing.{Fits}
use Rattle.rules.specs.Placings.{on_below, read_at}
use Rattle.home_order.specs.Sums.{Less}
use Rattle.home_order.specs.Homes.{stuck-order}
use Rattle.home_order.specs.Peaks.{need-held}
use Rattle.home_order.proofs.Rests.{rest-off}
use Rattle.home_order.proofs.goers.all_go_home.Goals as goal

pub bounds-rest-piece : goal.bounds-rest-piece
bounds-rest-piece c = omega (arith, on_below c.loop-k.rest c.in-Some.k c.in-Some.ensures.on)

pub bounds-rest-piece-in-Some : goal.bounds-rest-piece-in-Some
bounds-rest-piece-in-Some c = omega (arith, on_below c.loop-k.rest c.in-Some.k c.in-Some.ensures.on)

pub take_off-requires : goal.take_off-requires
take_off-requires c =
    let tables = c.args.stage.now.tables in
    let rest = c.loop-k.rest in
    let k = c.in-Some.k in
    let on = c.in-Some.ensures.on in
    let same = read_at rest c.from-piece.result k c.from-piece.ensures (on_below rest k on) in
    λ r known. omega (arith, ap (λ p. need (plan tables) p r) same, need-held (plan tables) (sound tables) rest k r on, c.loop-k.invariant.is r known)

pub loop-k-preserved : goal.loop-k-preserved
loop-k-preserved c =
    let tables = c.args.stage.now.tables in
    let t = plan tables in
    let rest = c.loop-k.rest in
    let k = c.in-Some.k in
    let goer = c.in-Some.ensures in
    let same = read_at rest c.from-piece.result k c.from-piece.ensures (on_below rest k goer.on) in
    let less : Less t (get_or rest k off) c.loop-k.sums c.take_off.new.sums = subst (λ p. Less t p c.loop-k.sums c.take_off.new.sums) same c.take_off.ensures in
    rw c.from-piece.ensures (rest-off t (sound tables) c.args.rest.now c.loop-k.sums rest k c.loop-k.invariant goer c.take_off.new.sums less)

pub returns : goal.returns
returns c =
    let tables = c.args.stage.now.tables in
    let t = plan tables in (
      λ e. c.loop-k.invariant.up ([], c.nobody_on.ensures.0 e),
      λ h. c.nobody_on.ensures.1 (stuck-order (Fits t) t c.loop-k.rest c.in_default.ensures (c.loop-k.invariant.down h)),
    )
