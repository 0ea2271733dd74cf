use Rattle.std.proofs.lemmas.Result.{err_from_is_err_and}
use Rattle.files.proofs.Both.{one-contents, no-fault, laid, show-fault}
use Rattle.files.proofs.pair.with_show.Goals as goal

pub returns-in_err-show : goal.returns-in_err-show
returns-in_err-show c =
    let q = err_from_is_err_and c.from_residual.result c.from_residual.ensures.1 in
    let show = c.args.show.now in
    let bad = show-fault show _ _ c.as_slice.ensures.value c.args.venue.valid _ c.in_err-show.ensures.ends in
    rw (q.1, q.2) (record { only = λ file is. tt; every = λ file is d l. no-fault file show d l _ (bad file is); fault = bad })

pub returns : goal.returns
returns c =
    let show = c.args.show.now in
    let read = laid show _ _ c.as_slice.ensures.value c.args.venue.valid _ _ c.in_ok-show.ensures.laid in
    record { only = read; every = λ file is d l. one-contents file show _ d (read file is) l; fault = λ file is. tt }
