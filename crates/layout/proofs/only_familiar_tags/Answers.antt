use Rattle.layout.proofs.Laws.{only-familiar}
use Rattle.layout.proofs.only_familiar_tags.Goals as goal

pub returns : goal.returns
returns c = only-familiar
