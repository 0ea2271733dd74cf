-- What is written of a case, after its label.
use Rattle.std.specs.Prelude.{ℕ, List, ◌++◌, Some, None, Ok, Err, codes, decimal, Option, Result}
use Rattle.std.specs.Option.{unwrap_or}
use Rattle.refusals.specs.declared.TooShort.{TooShort}
use Rattle.round_trip.specs.declared.back.Back.{Back}

-- the counts of resources, routes and positions
abbrev pub accepted_line : ℕ → ℕ → ℕ → List ℕ
accepted_line resources routes positions =
    codes "accepted " ++ (decimal resources ++ (codes " " ++ (decimal routes ++ (codes " " ++ decimal positions))))

abbrev pub refused_line : ℕ → ℕ → ℕ → ℕ → ℕ → ℕ → List ℕ
refused_line file number layer place byte part =
    codes "refused " ++ (decimal file ++ (codes " " ++ (decimal number ++ (codes " " ++ (decimal layer ++ (codes " " ++ (decimal place ++ (codes " " ++ (decimal byte ++ (codes " " ++ decimal part))))))))))

-- the length of a file that came back to the byte
abbrev pub if_same : Option ℕ → ℕ → Option ℕ
if_same None n = Some n
if_same (Some i) n = None

abbrev pub length_of : Result Back TooShort → Option ℕ
length_of (Ok b) = if_same b.differs b.length
length_of (Err e) = None

-- what is written of it: 0 for a file that did not come back, since no file is empty
abbrev pub length_told : Result Back TooShort → ℕ
length_told back = unwrap_or (length_of back) 0
