use Rattle.std.proofs.Common.{◌≡◌, length, rules}
use Rattle.lines.proofs.Fronts.{front-more, front-full}
use Rattle.lines.proofs.pending.Pending.push.Goals as goal

pub returns-then-self-lt18 : goal.returns-then-self-lt18
returns-then-self-lt18 c line held =
    let self = c.args.self.now in
    let long : length self.bytes ≡ 18 = search rules in
    front-more line self.bytes self.count c.args.byte long held c.if-self-lt18.true

pub returns-else-self-lt18 : goal.returns-else-self-lt18
returns-else-self-lt18 c line held =
    let self = c.args.self.now in
    let long : length self.bytes ≡ 18 = search rules in
    front-full line self.bytes self.count c.args.byte long held c.if-self-lt18.false
