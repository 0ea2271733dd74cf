use Rattle.std.specs.List.{zip}
use Rattle.std.specs.Slice.Iter.{iter_rest}
use Rattle.std.specs.Iterator.Adapters.{zip_first, zip_second}
use Rattle.std.proofs.Common.{inl, inr, ⊎_elim, vec_items}
use Rattle.texts.specs.Texts.{told}
use Rattle.texts.proofs.Pieces.{told-all, no-pairs}
use Rattle.texts.proofs.columns.texts_of.Goals as goal

pub returns : goal.returns
returns g c =
    let at = c.loop-name.name-iterator in
    let end = no-pairs (iter_rest (zip_first at)) (iter_rest (zip_second at)) (⊎_elim (λ a. inl a.1.0) (λ b. inr b.1.0) c.in-None.ensures.steps) in
    told-all g.T.Told.amount g.T.Told.text (vec_items c.loop-name.texts) _ (told g.T.Told.amount g.T.Told.text (zip c.args.names.now c.args.amounts.now)) c.loop-name.invariant end
