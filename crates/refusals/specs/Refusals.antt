-- Every refusal with its number and its cause, a text in ASCII.
use Rattle.std.specs.Prelude.{◌≡◌, ℕ, List, Some, None, codes, IfErr, Option, Result, ◌≢◌}
use Rattle.std.specs.Result.{result_ok}
use Rattle.refusals.specs.declared.Refusal.{Refusal}
use Rattle.refusals.specs.declared.UnknownNumber.{UnknownNumber}
use Rattle.refusals.specs.declared.Refusal.TheVariants.{NoSuchPiece, NoSuchRoute, AlreadyOn, NotOn, NotNext, NotLast, StageEmpty, NoRoom, NoSuchResource, RowTooShort, HeadCut, BodyCut, UnfamiliarTag, OutOfTurn, WrongLength, OutOfRange, TooMany, AfterEnd, WrongNext, NotInVenue, AboveCapacity, LineNotUnderstood, SpaceTooShort, NoSuchNumber}

abbrev pub entry : Refusal → ℕ × List ℕ
entry NoSuchPiece = (1, codes "no such piece")
entry NoSuchRoute = (2, codes "no such route")
entry AlreadyOn = (3, codes "piece already on")
entry NotOn = (4, codes "piece not on")
entry NotNext = (5, codes "not a next position")
entry NotLast = (6, codes "not a last position")
entry StageEmpty = (7, codes "stage empty")
entry NoRoom = (8, codes "no room under the rule")
entry NoSuchResource = (11, codes "no such resource")
entry RowTooShort = (12, codes "row shorter than the show")
entry HeadCut = (21, codes "field head cut")
entry BodyCut = (22, codes "field body cut")
entry UnfamiliarTag = (23, codes "unfamiliar tag")
entry OutOfTurn = (24, codes "field out of turn")
entry WrongLength = (25, codes "wrong length")
entry OutOfRange = (26, codes "value out of range")
entry TooMany = (27, codes "too many")
entry AfterEnd = (28, codes "bytes after the end")
entry WrongNext = (31, codes "wrong next position")
entry NotInVenue = (32, codes "resource not in venue")
entry AboveCapacity = (33, codes "need above capacity")
entry LineNotUnderstood = (40, codes "line not understood")
entry SpaceTooShort = (41, codes "space too short")
entry NoSuchNumber = (42, codes "no such number")

abbrev pub number_of : Refusal → ℕ
number_of r = (entry r).0

abbrev pub cause_of : Refusal → List ℕ
cause_of r = (entry r).1

-- the one refusal with the number n, or that there is none
abbrev pub Named : ℕ → Option Refusal → Type 0
Named n (Some r) = (number_of r ≡ n) × ((s : Refusal) → number_of s ≡ n → s ≡ r)
Named n None = (s : Refusal) → number_of s ≢ n

-- so told, with the number itself where there is none
abbrev pub NamedBy : ℕ → Result Refusal UnknownNumber → Type 0
NamedBy n r = Named n (result_ok r) × IfErr r (λ e. e.0 ≡ n)
