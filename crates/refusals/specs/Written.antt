-- A content at the front of a space, with the rest of the space as it was; or the length needed, and the whole space as it was.
use Rattle.std.specs.Prelude.{◌≡◌, ℕ, ◌<◌, ◌≤◌, List, ◌++◌, length, drop, Ok, Err, Result}
use Rattle.refusals.specs.declared.TooShort.{TooShort}

abbrev pub Written : Result ℕ TooShort → List ℕ → List ℕ → List ℕ → Type 0
Written (Ok n) content before after = (n ≡ length content) × (length content ≤ length before) × (after ≡ content ++ drop (length content) before)
Written (Err e) content before after = (e.needed ≡ length content) × (length before < length content) × (after ≡ before)
