use Rattle.std.proofs.Common.{vec_items, rules, sym, subst}
use Rattle.std.specs.Option.{option_map}
use Rattle.case_lines.specs.Hex.{hex, Reads}
use Rattle.case_lines.proofs.Spelling.{hex-more, hex-bad, hex-end}
use Rattle.case_lines.proofs.hex.decoded.Goals as goal

pub returns-in_default-byte : goal.returns-in_default-byte
returns-in_default-byte c = hex-bad _ (vec_items c.loop-rest.bytes) c.loop-rest.rest.now c.loop-rest.invariant (search rules) c.in_default-byte.ensures

pub loop-rest-preserved : goal.loop-rest-preserved
loop-rest-preserved c =
    hex-more _ (vec_items c.loop-rest.bytes) (vec_items c.push.new.self) c.loop-rest.rest.now c.in-Some.byte
    c.loop-rest.invariant (search rules) c.in-Some.ensures.1 c.in-Some.ensures.2 c.in_ok-push.ensures.items

pub returns : goal.returns
returns c = subst (λ o. Reads hex c.args.text.now (option_map vec_items o)) (sym c.then_some.ensures)
    (hex-end vec_items c.loop-rest.bytes c.args.text.now c.loop-rest.rest.now c.is_empty.result c.is_empty.ensures c.loop-rest.invariant c.in_default.len_below)
