use Rattle.std.proofs.Common.{◌≡◌, ℕ, ◌+◌, ◌<◌, ◌≤◌, get_or}
use Rattle.tables.specs.Plan.{plan, need}
use Rattle.home_order.proofs.sums.take_off.Given as goal

abbrev pub invariant-loop-resource : goal.invariant-loop-resource
invariant-loop-resource l =
    ((r : ℕ) → r < l.resource → get_or l.known r 0 + need (plan l.stage.tables) l.p r ≡ get_or l.initial.known r 0)
    × ((r : ℕ) → l.resource ≤ r → get_or l.known r 0 ≡ get_or l.initial.known r 0)
