use Rattle.files.proofs.Both.{show-ends}
use Rattle.files.proofs.show.read_show.Goals as goal

pub returns : goal.returns
returns c =
    let read = c.in_ok-read_routes.ensures in
    record { ends = show-ends c.args.bytes.now c.args.resources.now _ _ read.valid read.fits read.laid; laid = read }
