use Rattle.std.proofs.Common.{◌≡◌, ◌+◌, ◌*◌, true, leb, get_or, sym, ◌∙◌, arith, ltb-false, rules}
use Rattle.std.proofs.lemmas.Bool.{le-leb}
use Rattle.fields.specs.Fields.{rises}
use Rattle.fields.proofs.Heads.{at-three}
use Rattle.fields.proofs.parts.needs_rise.Goals as goal

pub loop-left-preserved : goal.loop-left-preserved
loop-left-preserved c =
    let xs = c.loop-left.left.now in
    let number : c.from-number.result ≡ get_or xs 0 0 = search rules in
    let up : leb c.loop-left.least (get_or xs 0 0) ≡ true = le-leb _ _ (omega (arith, c.if-number-least.false)) in
    let some : leb 1 (get_or xs 1 0 * 256 + get_or xs 2 0) ≡ true = le-leb _ _ (omega (arith, c.if-amount-eq0.false)) in
    let e = at-three (rises c.loop-left.least) xs (omega (arith, ltb-false)) in
    rw number (sym (rw (up, some) at e) ∙ c.loop-left.invariant)
