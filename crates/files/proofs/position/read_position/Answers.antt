use Rattle.std.proofs.Common.{◌≡◌, false, Ok, sym, ap, ◌∙◌}
use Rattle.std.proofs.lemmas.List.{take_all}
use Rattle.std.proofs.lemmas.Bool.{cond-false}
use Rattle.tables.specs.Model.{nexts_of}
use Rattle.layout.specs.Rules.{lacks, exceeds}
use Rattle.files.specs.Steps.{placed}
use Rattle.files.proofs.position.read_position.Goals as goal

pub returns : goal.returns
returns c =
    let rs = c.args.resources.now in
    let n = c.in_ok-nexts.ensures in
    let raw = c.in_ok-nexts.field-0.needs.now in
    let there : lacks rs raw ≡ false = sym c.some_lacking.ensures ∙ c.if-some_lacking.false in
    let enough : exceeds rs raw ≡ false = sym c.some_exceeding.ensures ∙ c.if-some_exceeding.false in
    let nexts : nexts_of c.named.result ≡ c.in_ok-nexts.field-0.nexts.now = c.named.ensures ∙ take_all 4 _ n.moved.1 in
    record {
      found = (λ i. Ok (record { nexts = nexts i; needs = c.need_row.ensures i }))
          ∙ sym (cond-false _ _ _ there ∙ cond-false _ _ _ enough)
          ∙ ap (placed rs _) n.found;
      moved = n.moved.0;
    }
