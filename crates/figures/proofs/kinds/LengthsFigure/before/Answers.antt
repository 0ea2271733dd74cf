use Rattle.std.proofs.Common.{arith}
use Rattle.tables.specs.Plan.{plan}
use Rattle.figures.proofs.Sounds.{sound}
use Rattle.figures.proofs.Ways.{main-ahead}
use Rattle.figures.proofs.Lengths.{length-figure, length-few}
use Rattle.figures.proofs.kinds.LengthsFigure.before.Goals as goal

pub overflow_add-result : goal.overflow_add-result
overflow_add-result c =
    let tables = c.args._tables.now in
    let t = plan tables in
    let known = c.requires.known in
    let q = known.0 in
    omega (arith, known.2, length-figure t q, length-few t (sound tables) q (main-ahead t (sound tables) _ _ known.1).1, (sound tables).few)
