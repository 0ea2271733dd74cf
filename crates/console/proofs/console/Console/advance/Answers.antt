use Rattle.std.proofs.Common.{◌≡◌, ◌<◌, None, sym, ◌∙◌, subst, inl, inr, rules}
use Rattle.std.specs.List.{ContainsAt as Has}
use Rattle.std.specs.Option.{MatchOption}
use Rattle.tables.specs.Plan.{plan, next, count}
use Rattle.console.proofs.console.Console.advance.Goals as goal

pub returns-in_err-next-clause-answer : goal.returns-in_err-next-clause-answer
returns-in_err-next-clause-answer g c =
    let t = plan c.args.self.now.stage.tables in
    let at = c.in_ok-p.ensures in
    let gone : c.next_of.result ≡ None = search rules in
    let position = c.args.position in
    let none : Has (next t c.in_ok-p.p) position → ⊥ = subst (λ o. MatchOption o (Has (next t c.in_ok-p.p) position → ⊥) (λ q. Has (next t c.in_ok-p.p) position × (q ≡ position) × (q < count t))) gone c.next_of.ensures in
    inl (at.0, inl ((λ e. c.if-p.false (at.1 ∙ e)), inr ((λ has. none (subst (λ x. Has (next t x) position) (sym at.1) has)), search rules)))
