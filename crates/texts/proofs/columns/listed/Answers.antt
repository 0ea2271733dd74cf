use Rattle.std.proofs.Common.{string_bytes, ◌∙◌, rules}
use Rattle.std.proofs.lemmas.Result.{IfOk-weaker}
use Rattle.texts.proofs.Pieces.{listing-some}
use Rattle.texts.proofs.columns.listed.Goals as goal

pub returns-else-is_empty : goal.returns-else-is_empty
returns-else-is_empty c =
    let e = listing-some string_bytes c.args.none.now c.args.between.now c.args.texts.now (search rules) in
    IfOk-weaker c.join.result _ _ (λ s h. h ∙ e) c.join.ensures.ok
