use Rattle.lines.proofs.Sayings.{only-start, only-move}
use Rattle.lines.proofs.parse.parse.Goals as goal

pub returns-in_err-piece : goal.returns-in_err-piece
returns-in_err-piece c = rw c.from_residual.ensures (only-start c.args.line.now c.in-Some.text.now c.in-Some.ensures c.in_err-piece.ensures)

pub returns-in_err-piece-2 : goal.returns-in_err-piece-2
returns-in_err-piece-2 c = rw c.from_residual-in_err-piece-2.ensures (only-move c.args.line.now c.in-Some-behind.text.now c.in-Some-behind.ensures c.in_err-piece-2.ensures)
