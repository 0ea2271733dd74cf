use Rattle.std.proofs.Common.{◌≡◌, false, sym, ◌∙◌, rules}
use Rattle.texts.specs.Texts.{plain}
use Rattle.texts.proofs.Pieces.{made-if, at_ok, escape-pushed}
use Rattle.texts.proofs.names.push_shown.Goals as goal

pub returns : goal.returns
returns c =
    made-if c.push-3.result _
    (λ ok. let not_plain : plain c.args.byte ≡ false = sym c.is_plain.ensures ∙ c.if-is_plain.false in
    escape-pushed c.args.byte c.hex_digit.result c.hex_digit-2.result _ _ _ _ _ _
    not_plain
    c.in_ok-push_str.ensures.bytes
    c.in_ok-push.ensures.bytes
    (at_ok c.push-3.result _ _ _ ok c.push-3.ensures.bytes)
    (c.push-2.ensures.ascii (search rules))
    (c.push-3.ensures.ascii (search rules))
    c.hex_digit.ensures
    c.hex_digit-2.ensures)
