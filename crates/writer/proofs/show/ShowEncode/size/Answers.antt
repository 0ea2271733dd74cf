use Rattle.std.proofs.Common.{ap, length, ◌∙◌, arith}
use Rattle.tables.specs.Model.{positions_of}
use Rattle.layout.specs.Layout.{position_field}
use Rattle.std.specs.List.{flat_map}
use Rattle.writer.proofs.Shows.{sized, laid}
use Rattle.writer.proofs.show.ShowEncode.size.Goals as goal

pub size_of_all-requires : goal.size_of_all-requires
size_of_all-requires c =
    let s = c.args.self.now in
    let same = ap length (laid c.as_slice.result.now ∙ ap (λ l. flat_map position_field (positions_of l)) c.as_slice.ensures.value) in
    omega (arith, same, (sized s).small)

pub overflow_add-result-2 : goal.overflow_add-result-2
overflow_add-result-2 c =
    let s = c.args.self.now in
    let same = ap length (laid c.as_slice.result.now ∙ ap (λ l. flat_map position_field (positions_of l)) c.as_slice.ensures.value) in
    omega (arith, same, (sized s).small, (sized s).few, s.routes.ok, c.len.ensures, c.size_of_all.ensures)

pub returns : goal.returns
returns c =
    let s = c.args.self.now in
    let same = ap length (laid c.as_slice.result.now ∙ ap (λ l. flat_map position_field (positions_of l)) c.as_slice.ensures.value) in
    omega (arith, same, (sized s).size, s.routes.ok, c.len.ensures, c.size_of_all.ensures)
