use Rattle.std.proofs.Common.{◌≡◌, ◌-◌, take, ap, ◌∙◌, arith}
use Rattle.lines.proofs.Fronts.{front-says}
use Rattle.lines.proofs.pending.Pending.call.Goals as goal

pub returns : goal.returns
returns c line held =
    let self = c.args.self.now in
    let all : self.count - 0 ≡ self.count = omega arith in
    front-says line c.parse.result (take (self.count - 0) self.bytes) (ap (λ n. take n self.bytes) all ∙ held) c.parse.ensures
