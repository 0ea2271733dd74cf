use Rattle.std.proofs.Common.{ℕ, Some, None, Option, MatchOption, rules}
use Rattle.tables.specs.Plan.{plan}
use Rattle.figures.proofs.Sounds.{sound}
use Rattle.rules.specs.Placing.{On}
use Rattle.console.proofs.console.Console.named.Goals as goal

by_cases : (named : Option ℕ → Type 0) (on : ℕ → Type 0) (r : Option ℕ) → ((k : ℕ) → named (Some k) → on k) → named r → MatchOption r (named None) (λ k. named (Some k) × on k)
by_cases named on None is h = h
by_cases named on (Some k) is h = (h, is k h)

pub returns : goal.returns
returns g c =
    let self = c.args.self.now in
    let t = plan self.stage.tables in
    let cases = by_cases (g.R.ClearingRule.named self.rule t self.placing) (On self.placing) c.name.result
    (λ k h. (g.met.R.ClearingRule.goes self.rule t self.placing (Some k) (sound self.stage.tables) h).1)
    c.name.ensures.answer in
    search rules
