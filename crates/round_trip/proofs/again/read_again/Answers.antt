use Rattle.round_trip.proofs.Fronts.{front}
use Rattle.round_trip.proofs.again.read_again.Goals as goal

pub read_written-requires : goal.read_written-requires
read_written-requires c = record {
  venue = front c.in_ok-venue_end.venue_end _ _ _ c.in_ok-venue_end.ensures;
  show = front c.in_ok-show_end.show_end _ _ _ c.in_ok-show_end.ensures;
}
