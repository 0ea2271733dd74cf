use Rattle.std.proofs.Common.{◌≡◌, ◌+◌, ◌<◌, length, get_or, take, sym, ap, ◌∙◌, subst, arith, length-take}
use Rattle.std.proofs.lemmas.List.{get_or-take, take_more_same, take_all}
use Rattle.round_trip.proofs.compare.common.Goals as goal

pub returns-then-a-i : goal.returns-then-a-i
returns-then-a-i c =
    let a = c.args.a.now in
    let b = c.args.b.now in
    let i = c.loop-i.i in
    let here : i < i + 1 = omega arith in
    let within = c.min-both.ensures in
    record {
      same = c.loop-i.invariant;
      longest = λ lt e. c.if-a-i.true (sym (get_or-take (i + 1) a i 0 here) ∙ ap (λ l. get_or l i 0) e ∙ get_or-take (i + 1) b i 0 here);
      all = λ le. absurd (omega arith);
    }

pub loop-i-preserved : goal.loop-i-preserved
loop-i-preserved c =
    take_more_same c.args.a.now c.args.b.now c.loop-i.i 0 (omega (arith, c.min-both.ensures)) (omega (arith, c.min-both.ensures)) c.loop-i.invariant c.if-a-i.false

pub returns : goal.returns
returns c =
    let a = c.args.a.now in
    let b = c.args.b.now in
    let n = c.min-both.result in
    let last : c.loop-i.i ≡ n = omega arith in
    let least = c.min-both.ensures in
    let same : take n a ≡ take n b = subst (λ k. take k a ≡ take k b) last c.loop-i.invariant in
    record {
      same = same;
      longest = λ lt e. omega (arith, sym (length-take (n + 1) a) ∙ ap length e ∙ length-take (n + 1) b);
      all = λ le. sym (take_all n a (omega arith)) ∙ same ∙ take_all n b (omega arith);
    }
