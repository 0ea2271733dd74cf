use Rattle.case_lines.proofs.Pairs.{halved}
use Rattle.case_lines.proofs.case.halves.Goals as goal

pub returns : goal.returns
returns c = halved c.args.text.now c.split_once.result c.split_once.ensures.cases
