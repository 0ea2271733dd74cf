use Rattle.std.proofs.Common.{◌<◌, set, sym, subst, arith}
use Rattle.tables.specs.Plan.{plan}
use Rattle.figures.specs.Placing.{stepped}
use Rattle.figures.proofs.Sounds.{sound}
use Rattle.rules.specs.Placing.{Formed}
use Rattle.rules.specs.Placings.{on_below, formed-set}
use Rattle.rules.specs.Orders.{stepped-placed}
use Rattle.console.proofs.console.Console.clear.Goals as goal

pub invariant_of-self : goal.invariant_of-self
invariant_of-self g c =
    let self = c.args.self.now in
    let t = plan self.stage.tables in
    let k = c.from-k.result in
    let lt : k < 64 = omega (arith, on_below self.placing c.in_ok-piece.piece c.in_ok-piece.ensures.1, self.formed.0, c.from-k.ensures) in
    record { formed = subst (λ q. Formed t (set self.placing k q)) (sym c.step_from.ensures) (formed-set t self.placing k (stepped t _) lt (stepped-placed t (sound self.stage.tables) _) self.formed) }
