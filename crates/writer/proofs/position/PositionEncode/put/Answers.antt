use Rattle.std.proofs.Common.{◌≡◌, ◌/◌, ◌%◌, ◌∷◌, ◌++◌, length, ap, ◌∙◌, arith}
use Rattle.tables.specs.Model.{nexts_of}
use Rattle.layout.specs.Layout.{need_fields}
use Rattle.writer.proofs.Joins.{appends_then, appends-as, high_byte, low_byte}
use Rattle.writer.proofs.position.PositionEncode.put.Goals as goal

pub returns : goal.returns
returns c =
    let x = c.args.self.now in
    let raw = need_fields 0 x.needs in
    let nexts = c.as_slice-nexts.ensures in
    let body : c.body_size.result ≡ length (length (nexts_of x.nexts) ∷ (nexts_of x.nexts ++ raw)) = omega (arith, c.body_size.ensures.size) in
    let high = high_byte _ _ (omega (arith, c.body_size.ensures.most)) c.to_be_bytes.ensures ∙ ap (λ n. n / 256) body in
    let low = low_byte _ _ c.to_be_bytes.ensures ∙ ap (λ n. n % 256) body in
    appends-as (λ i. 0x21 ∷ high i ∷ low i ∷ length (nexts i) ∷ (nexts i ++ raw)) (appends_then c.put.ensures (appends_then c.put-2.ensures c.put_needs.ensures))
