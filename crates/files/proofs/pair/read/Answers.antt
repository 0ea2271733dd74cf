use Rattle.std.proofs.Common.{inl}
use Rattle.std.proofs.lemmas.Result.{err_from_is_err_and}
use Rattle.layout.specs.Reading.{FaultOf}
use Rattle.files.proofs.Both.{no-fault}
use Rattle.files.proofs.pair.read.Goals as goal

pub returns-in_err-venue : goal.returns-in_err-venue
returns-in_err-venue c =
    let q = err_from_is_err_and c.from_residual.result c.from_residual.ensures.1 in
    let venue = c.args.pair.venue.now in
    let show = c.args.pair.show.now in
    let bad : FaultOf venue show _ = inl c.in_err-venue.ensures.ends in
    rw (q.1, q.2) (record { only = tt; every = λ d l. no-fault venue show d l _ bad; fault = bad })
