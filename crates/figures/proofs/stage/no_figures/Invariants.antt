use Rattle.std.proofs.Common.{◌≡◌, ℕ, ◌<◌, get_or, length}
use Rattle.figures.specs.Claims.{made}
use Rattle.figures.proofs.stage.no_figures.Given as goal

abbrev pub invariant-loop-p : goal.invariant-loop-p
invariant-loop-p l = (length l.claim-items ≡ 128) × ((q : ℕ) → q < l.p → get_or l.claim-items q (made 0 0) ≡ made 0 q)
