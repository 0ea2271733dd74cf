-- What a call is answered: what was granted, or why it was refused.
use Rattle.std.specs.Prelude.{Result}
use Rattle.refusals.specs.declared.Refusal.{Refusal}
use Rattle.history.specs.declared.calls.Granted.{Granted}

abbrev pub Answer : Type 0
Answer = Result Granted Refusal
