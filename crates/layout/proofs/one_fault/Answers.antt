use Rattle.layout.proofs.Laws as laws
use Rattle.layout.proofs.one_fault.Goals as goal

pub returns : goal.returns
returns c = laws.one-fault
