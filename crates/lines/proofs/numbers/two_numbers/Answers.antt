use Rattle.std.proofs.Common.{◌≡◌, ℕ, List, take, drop, sym, subst}
use Rattle.std.specs.List.{AllByRecursion as All}
use Rattle.lines.specs.Lines.{Number, space}
use Rattle.lines.proofs.Spaces.{some-space, cut, numbers-at, tail}
use Rattle.lines.proofs.numbers.two_numbers.Goals as goal

pub returns-in_err-i : goal.returns-in_err-i
returns-in_err-i c = rw c.from_residual.ensures (λ k j h. some-space h.0 h.1 (subst (All (λ x. x ≡ space → ⊥)) h.2 c.in_err-i.ensures))

pub returns-in_err-first : goal.returns-in_err-first
returns-in_err-first c =
    let text = c.args.text.now in
    let at = c.in_ok-i.ensures in
    rw c.from_residual-in_err-first.ensures (λ k j h. c.in_err-first.ensures k (numbers-at text c.in_ok-i.i k j at.1 at.2 h).0)

pub returns-in_err-second : goal.returns-in_err-second
returns-in_err-second c =
    let text = c.args.text.now in
    let i = c.in_ok-i.i in
    let at = c.in_ok-i.ensures in
    rw c.from_residual-in_err-second.ensures (λ k j h. c.in_err-second.ensures j (subst (λ (xs : List ℕ). Number xs j) (sym (tail text i)) (numbers-at text i k j at.1 at.2 h).1))

pub returns : goal.returns
returns c =
    let text = c.args.text.now in
    let i = c.in_ok-i.i in
    let at = c.in_ok-i.ensures in
    (take i text, drop 1 (drop i text), cut text i at.0 at.1, c.in_ok-first.ensures, subst (λ (xs : List ℕ). Number xs c.in_ok-second.second) (tail text i) c.in_ok-second.ensures)
