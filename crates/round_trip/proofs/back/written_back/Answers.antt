use Rattle.std.proofs.Common.{sym, subst}
use Rattle.round_trip.specs.Compare.{Differ}
use Rattle.round_trip.proofs.Fronts.{front, no_difference}
use Rattle.round_trip.proofs.back.written_back.Goals as goal

pub returns : goal.returns
returns g c =
    let bytes = c.args.bytes.now in
    let d = c.first_difference-differs.result in
    let written = c.in_ok-length.ensures in
    let differ = subst (λ l. Differ d l bytes) (front c.in_ok-length.length _ _ _ written) c.first_difference-differs.ensures in
    record { compared = (written, differ); same = λ e. no_difference d _ bytes differ (sym e) }
