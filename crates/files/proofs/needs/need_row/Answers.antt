use Rattle.std.proofs.Common.{◌≡◌, suc, ◌+◌, ◌-◌, ◌<◌, [], ◌∷◌, ◌++◌, length, take, sym, ap, ◌∙◌, append_assoc, arith, length-set}
use Rattle.std.proofs.lemmas.List.{take_more_set}
use Rattle.layout.specs.Rules.{row_of_needs}
use Rattle.files.proofs.needs.need_row.Goals as goal

pub loop-i-preserved : goal.loop-i-preserved
loop-i-preserved c =
    let row = c.loop-i.amount-items in
    let i = c.loop-i.i in
    let a = c.need_of.result.0 in
    let n = 16 - (i + 1) in
    let long = c.loop-i.invariant.0 in
    let lt : i < length row = omega arith in
    let one : 16 - i ≡ suc n = omega arith in (
      length-set row i a ∙ long,
      ap (λ l. l ++ row_of_needs n (i + 1) c.need_of.result.1.now) (take_more_set row i a lt)
          ∙ append_assoc (take i row) (a ∷ []) (row_of_needs n (i + 1) c.need_of.result.1.now)
          ∙ ap (λ l. take i row ++ l) (sym (c.need_of.ensures n) ∙ ap (λ k. row_of_needs k i c.loop-i.left.now) (sym one))
          ∙ c.loop-i.invariant.1,
    )
