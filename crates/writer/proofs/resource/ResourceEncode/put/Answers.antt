use Rattle.std.proofs.Common.{◌≡◌, ◌/◌, ◌%◌, ◌∷◌, length, arith}
use Rattle.writer.proofs.Joins.{appends_then, appends-as, high_byte, low_byte}
use Rattle.writer.proofs.resource.ResourceEncode.put.Goals as goal

pub returns : goal.returns
returns c =
    let r = c.args.self.now in
    let high = high_byte r.capacity _ (omega arith) c.to_be_bytes.ensures in
    let low = low_byte r.capacity _ c.to_be_bytes.ensures in
    let size : 11 ≡ length ((r.capacity / 256) ∷ (r.capacity % 256) ∷ r.order ∷ r.name) = omega arith in
    appends-as (λ i. 0x10 ∷ (size i / 256) ∷ (size i % 256) ∷ high i ∷ low i ∷ r.order ∷ r.name) (appends_then c.put.ensures c.put-2.ensures)
