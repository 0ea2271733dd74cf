use Rattle.files.proofs.Both.{venue-ends}
use Rattle.files.proofs.venue.read_venue.Goals as goal

pub returns : goal.returns
returns c = let read = c.in_ok-read_resources.ensures in record { ends = venue-ends c.args.bytes.now _ read.0 read.1; laid = read.1 }
