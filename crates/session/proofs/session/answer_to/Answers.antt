use Rattle.std.proofs.Common.{inl}
use Rattle.session.proofs.session.answer_to.Goals as goal

pub returns-in-Some-clause-answered : goal.returns-in-Some-clause-answered
returns-in-Some-clause-answered c = λ text held.
    inl (record { call = c.in-Some.call; says = c.in-Some.ensures text held; made = c.ordered_call.ensures.call })
