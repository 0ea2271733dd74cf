use Rattle.std.proofs.Common.{◌+◌, ◌<◌, ◌∷◌, ◌++◌, [], length, get_or, take, sym, ap, ◌∙◌, arith}
use Rattle.layout.specs.Layout.{need_fields}
use Rattle.writer.proofs.Joins.{appends_then, appends-as, appends-here, fits_next, high_byte, low_byte}
use Rattle.writer.proofs.Needs.{need-none, need-some, need-three, need-front}
use Rattle.writer.proofs.position.put_needs.Goals as goal
use Rattle.writer.proofs.position.put_needs.Goals.{then-amount-gt0, else-amount-gt0}

pub put-requires : goal.put-requires
put-requires c =
    let row = c.args.needs.now in
    let i = c.loop-i.i in
    let more = need-three row i (omega arith) c.if-amount-gt0.true in
    let front = need-front row (i + 1) in
    fits_next (i ∷ get_or c.to_be_bytes.result 0 0 ∷ get_or c.to_be_bytes.result 1 0 ∷ []) (length (need_fields 0 row)) (omega arith) c.requires c.loop-i.invariant

pub loop-i-preserved : goal.loop-i-preserved
loop-i-preserved c =
    let row = c.args.needs.now in
    let i = c.loop-i.i in
    let lt : i < length row = omega arith in
    elim c.if-amount-gt0.branch [
      | then-amount-gt0 w ↦
          let high = high_byte _ _ (omega arith) w.to_be_bytes.ensures in
          let low = low_byte _ _ w.to_be_bytes.ensures in
          appends-here w.out-is
          (appends-as (ap (λ l. need_fields 0 (take i row) ++ l) (λ j. i ∷ high j ∷ low j ∷ []) ∙ sym (need-some row i lt w.if-amount-gt0.true)) (appends_then c.loop-i.invariant w.put.ensures))
      | else-amount-gt0 w ↦ appends-here w.out-is (appends-as (sym (need-none row i lt (omega (arith, w.if-amount-gt0.false)))) c.loop-i.invariant)
    ]
