-- A field as the bytes have it: a tag, a length in two bytes (high byte first), and a body of that length.
use Rattle.std.specs.Prelude.{ℕ, ◌+◌, ◌*◌, Bool, cond, List, length, take, drop, Ok, Err, Result, nat_lt, slice_index}
use Rattle.fields.specs.declared.spot.File.{File}
use Rattle.fields.specs.declared.spot.File.TheVariants.{Venue, Show}
use Rattle.fields.specs.declared.spot.Spot.{Spot}
use Rattle.fields.specs.declared.cut.Raw.{Raw}
use Rattle.fields.specs.declared.faults.ByteFault.{ByteFault}
use Rattle.fields.specs.declared.faults.ByteFault.TheVariants.{HeadCut, BodyCut}

-- a number of two bytes
abbrev pub word : ℕ → ℕ → ℕ
word high low = high * 256 + low

-- of the field at the front of what is left of a file: its tag, the length that its head names, and its body
abbrev pub tag : List ℕ → ℕ
tag left = slice_index left 0

abbrev pub body_size : List ℕ → ℕ
body_size left = word (slice_index left 1) (slice_index left 2)

abbrev pub body : List ℕ → List ℕ
body left = take (body_size left) (drop 3 left)

-- how long the whole field is, by its head
abbrev pub field_size : List ℕ → ℕ
field_size left = 3 + body_size left

abbrev pub head_cut : List ℕ → Bool
head_cut left = nat_lt (length left) 3

abbrev pub body_cut : List ℕ → Bool
body_cut left = nat_lt (length left) (field_size left)

-- of a venue file and a show file, the one that is named
abbrev pub of_file : File → List ℕ → List ℕ → List ℕ
of_file Venue venue show = venue
of_file Show venue show = show

-- a point of a file: its place in bytes from the start, and what is left from there
pub record Point : Type 0 where
  pub file : File
  pub place : ℕ
  pub left : List ℕ

abbrev pub point_at : File → ℕ → List ℕ → Point
point_at f n l = record { file = f; place = n; left = l }

-- the point behind the field that stands here
abbrev pub past : Point → Point
past p = record { file = p.file; place = p.place + field_size p.left; left = drop (field_size p.left) p.left }

-- the place of the field's tag and the byte there, 0 if there is none
abbrev pub spot_at : Point → Spot
spot_at p = record { file = p.file; place = p.place; byte = slice_index p.left 0 }

-- a tag with its body
pub data Piece : Type 0 where
  piece : ℕ → List ℕ → Piece

abbrev pub seen : Result Raw ByteFault → Result Piece ByteFault
seen (Ok r) = Ok (piece r.tag r.body.now)
seen (Err e) = Err e

abbrev pub cut_off : Spot → List ℕ → Result Piece ByteFault
cut_off s left =
    cond (head_cut left) (Err (HeadCut s)) (cond (body_cut left) (Err (BodyCut s)) (Ok (piece (tag left) (body left))))
