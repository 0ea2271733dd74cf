-- The text of a number, put at the front of a space.
use Rattle.std.specs.Prelude.{◌≡◌, ℕ, List, Some, None, Ok, Err, Result}
use Rattle.refusals.specs.declared.Refusal.{Refusal}
use Rattle.refusals.specs.declared.Refusal.TheVariants as refusal
use Rattle.refusals.specs.declared.NoText.{NoText}
use Rattle.refusals.specs.declared.NoText.TheVariants.{NoSuchNumber, SpaceTooShort}
use Rattle.refusals.specs.Refusals.{cause_of, Named}
use Rattle.refusals.specs.Written.{Written}

abbrev pub refusal_of : NoText → Refusal
refusal_of NoSuchNumber = refusal.NoSuchNumber
refusal_of (SpaceTooShort e) = refusal.SpaceTooShort

-- the cause of the one refusal with the number n; where there is none, the space is not asked, and stays as it was
abbrev pub Told : ℕ → Result ℕ NoText → List ℕ → List ℕ → Type 0
Told n (Ok m) before after = (r : Refusal) × Named n (Some r) × Written (Ok m) (cause_of r) before after
Told n (Err (SpaceTooShort e)) before after = (r : Refusal) × Named n (Some r) × Written (Err e) (cause_of r) before after
Told n (Err NoSuchNumber) before after = Named n None × (after ≡ before)
