-- A written file at the front of a space, against other bytes.
use Rattle.std.proofs.Common.{◌≡◌, ℕ, ◌+◌, ◌-◌, List, length, take, drop, Some, None, Ok, Option, refl, ap, ◌∙◌, arith}
use Rattle.std.proofs.lemmas.List.{take_at}
use Rattle.refusals.specs.Written.{Written}
use Rattle.tables.specs.declared.tables.Tables.{Tables}
use Rattle.tables.specs.Contents.{contents}
use Rattle.layout.specs.Layout.{venue_file, show_file}
use Rattle.files.specs.Pairs.{Laid}
use Rattle.round_trip.specs.Compare.{Differ}

pub front : (n : ℕ) (file before after : List ℕ) → Written (Ok n) file before after → take (n - 0) after ≡ file
front n file before after w =
    let size : length file ≡ n - 0 = omega (arith, w.0) in
    ap (take (n - 0)) w.2 ∙ take_at file (drop (length file) before) (n - 0) size

pub no_difference : (d : Option ℕ) (a b : List ℕ) → Differ d a b → a ≡ b → d ≡ None
no_difference None a b h e = refl
no_difference (Some i) a b h e = absurd (h.1 (ap (take (i + 1)) e))

-- tables are valid, so the files written of them are their layout
pub laid : (t : Tables) (venue show : List ℕ) → venue ≡ venue_file (contents t).resources → show ≡ show_file (contents t).counts (contents t).positions → Laid venue show (contents t)
laid t venue show e f =
    record { valid = record { venue = t.venue.valid; show = t.show.valid; fits = t.fits }; venue_laid = e; show_laid = f }
