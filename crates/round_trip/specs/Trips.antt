-- Files written back, and read again.
use Rattle.std.specs.Prelude.{◌≡◌, ℕ, ◌⊎◌, List, length, None, Ok, Err, Result}
use Rattle.refusals.specs.declared.TooShort.{TooShort}
use Rattle.refusals.specs.Written.{Written}
use Rattle.tables.specs.declared.tables.Tables.{Tables}
use Rattle.tables.specs.Contents.{Contents, contents}
use Rattle.layout.specs.Layout.{venue_file, show_file}
use Rattle.round_trip.specs.declared.back.Back.{Back}
use Rattle.round_trip.specs.Compare.{Differ}

-- the file was written, and compared with the bytes; or the space is too short, and as it was
abbrev pub Compared : Result Back TooShort → List ℕ → List ℕ → List ℕ → List ℕ → Type 0
Compared (Ok b) file bytes before after = Written (Ok b.length) file before after × Differ b.differs file bytes
Compared (Err e) file bytes before after = Written (Err e) file before after

-- no difference
abbrev pub Same : Result Back TooShort → Type 0
Same (Ok b) = b.differs ≡ None
Same (Err e) = Unit {0}

-- the tables were written and read again as what they hold; or a space is too short, and is as it was
abbrev pub ReadAgain : Result Tables TooShort → Contents → List ℕ → List ℕ → List ℕ → List ℕ → Type 0
ReadAgain (Ok t) c venue venue' show show' =
    (contents t ≡ c)
    × Written (Ok (length (venue_file c.resources))) (venue_file c.resources) venue venue'
    × Written (Ok (length (show_file c.counts c.positions))) (show_file c.counts c.positions) show show'
ReadAgain (Err e) c venue venue' show show' =
    (Written (Err e) (venue_file c.resources) venue venue' × (show' ≡ show))
    ⊎ (Written (Ok (length (venue_file c.resources))) (venue_file c.resources) venue venue' × Written (Err e) (show_file c.counts c.positions) show show')
