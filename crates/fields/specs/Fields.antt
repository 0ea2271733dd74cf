-- What a field says, and what can be wrong with it. Its parts are lists of bytes here; `shown` reads them off a field
-- of the code.
use Rattle.std.specs.Prelude.{◌≡◌, ℕ, ◌+◌, ◌-◌, ◌%◌, ◌<◌, ◌≤◌, Bool, true, false, cond, not, ◌&&◌, ◌||◌, List, [], ◌∷◌, length, take, drop, Ok, Err, Result, MatchResult, ◌==◌, nat_le, nat_lt, slice_index}
use Rattle.fields.specs.declared.spot.File.{File}
use Rattle.fields.specs.declared.spot.File.TheVariants.{Venue, Show}
use Rattle.fields.specs.declared.spot.Spot.{Spot}
use Rattle.fields.specs.declared.field.Turn.{Turn}
use Rattle.fields.specs.declared.field.Turn.TheVariants.{Head, FirstResource, MoreResources, FirstRoute, MoreRoutes, InRoute}
use Rattle.fields.specs.declared.field.Field.{Field}
use Rattle.fields.specs.declared.field.Field.TheVariants.{Header, Resource, Route, Position, End}
use Rattle.fields.specs.declared.field.Tag.{Tag}
use Rattle.fields.specs.declared.field.Tag.TheVariants as tag
use Rattle.fields.specs.declared.field.UnknownTag.{UnknownTag}
use Rattle.fields.specs.declared.faults.FieldFault.{FieldFault}
use Rattle.fields.specs.declared.faults.FieldFault.TheVariants.{Bytes, UnfamiliarTag, OutOfTurn, WrongLength, OutOfRange}
use Rattle.fields.specs.declared.faults.ByteFault.{ByteFault}
use Rattle.fields.specs.declared.faults.ByteFault.TheVariants.{AfterEnd}
use Rattle.fields.specs.declared.reader.FieldReader.{FieldReader}
use Rattle.fields.specs.Bytes.{word, Point, spot_at, Piece, piece, cut_off}

-- kind and version; capacity, order and name; the count of positions; the next positions and the bytes of the needs
pub data Part : Type 0 where
  header : ℕ → ℕ → Part
  resource : ℕ → ℕ → List ℕ → Part
  route : ℕ → Part
  position : List ℕ → List ℕ → Part
  end : Part

-- the kind that a file's header has to name
abbrev pub byte_of_kind : File → ℕ
byte_of_kind Venue = 0x56
byte_of_kind Show = 0x53

abbrev pub part_of : Field → Part
part_of (Header f v) = header (byte_of_kind f) v
part_of (Resource c o n) = resource c o n.now
part_of (Route n) = route n
part_of (Position a b) = position a.now b.now
part_of End = end

abbrev pub shown : Result Field FieldFault → Result Part FieldFault
shown (Ok f) = Ok (part_of f)
shown (Err e) = Err e

-- of a field with the place behind it
abbrev pub shown_here : Result (Field × ℕ) FieldFault → Result Part FieldFault
shown_here (Ok x) = Ok (part_of x.0)
shown_here (Err e) = Err e

-- the point at which a reader stands
abbrev pub point_of : FieldReader → Point
point_of r = record { file = r.file; place = r.place; left = drop r.place r.bytes.now }

-- one of five, by a field's tag: header, resource, route, position, else end
abbrev pub by_tag : {X : Type 0} → ℕ → X → X → X → X → X → X
by_tag t h r o p e = cond (t == 0x01) h (cond (t == 0x10) r (cond (t == 0x20) o (cond (t == 0x21) p e)))

abbrev pub familiar : ℕ → Bool
familiar t = t == 0x01 || t == 0x10 || t == 0x20 || t == 0x21 || t == 0x7f

-- the byte of each tag
abbrev pub byte_of_tag : Tag → ℕ
byte_of_tag tag.Header = 0x01
byte_of_tag tag.Resource = 0x10
byte_of_tag tag.Route = 0x20
byte_of_tag tag.Position = 0x21
byte_of_tag tag.End = 0x7f

-- the tag of this byte, or the byte itself, which is that of none
abbrev pub TagBy : ℕ → Result Tag UnknownTag → Type 0
TagBy n r = MatchResult r (λ t. byte_of_tag t ≡ n) (λ e. (e.0 ≡ n) × (familiar n ≡ false))

-- which tags may come
abbrev pub allowed : Turn → ℕ → Bool
allowed Head t = t == 0x01
allowed FirstResource t = t == 0x10
allowed MoreResources t = t == 0x10 || t == 0x7f
allowed FirstRoute t = t == 0x20
allowed MoreRoutes t = t == 0x20 || t == 0x7f
allowed InRoute t = t == 0x21

-- of a position's body: how many next positions it names, these, and the needs behind them
abbrev pub next_count : List ℕ → ℕ
next_count b = slice_index b 0

abbrev pub next_bytes : List ℕ → List ℕ
next_bytes b = take (next_count b) (drop 1 b)

abbrev pub need_bytes : List ℕ → List ℕ
need_bytes b = drop (next_count b) (drop 1 b)

-- the number of two bytes at the front of a body: a capacity, or a count of positions
abbrev pub front : List ℕ → ℕ
front b = word (slice_index b 0) (slice_index b 1)

-- too short for its next positions, or no whole number of needs
abbrev pub ragged : List ℕ → Bool
ragged b = nat_lt (length b) (1 + next_count b) || not ((length b - (1 + next_count b)) % 3 == 0)

abbrev pub wrong_length : ℕ → List ℕ → Bool
wrong_length t b =
    by_tag t (not (length b == 2)) (not (length b == 11)) (not (length b == 2)) (ragged b) (not (length b == 0))

-- needs of three bytes each, from resource `low` on: their numbers rise strictly, and each amount is at least 1
abbrev pub rises : ℕ → List ℕ → Bool
rises low [] = true
rises low (r ∷ []) = true
rises low (r ∷ h ∷ []) = true
rises low (r ∷ h ∷ l ∷ more) = nat_le low r && (nat_le 1 (word h l) && rises (r + 1) more)

abbrev pub out_of_range : File → ℕ → List ℕ → Bool
out_of_range f t b =
    by_tag t
    (not (slice_index b 0 == byte_of_kind f && slice_index b 1 == 1))
    (front b == 0)
    (front b == 0 || nat_lt 128 (front b))
    (nat_lt 4 (next_count b) || not (rises 0 (need_bytes b)))
    false

-- what a field of this tag and body says
abbrev pub part_at : ℕ → List ℕ → Part
part_at t b =
    by_tag t (header (slice_index b 0) (slice_index b 1)) (resource (front b) (slice_index b 2) (drop 3 b)) (route (front b)) (position (next_bytes b) (need_bytes b)) end

abbrev pub judged : Spot → Bool → Bool → Part → Result Part FieldFault
judged s wrong out x = cond wrong (Err (WrongLength s)) (cond out (Err (OutOfRange s)) (Ok x))

abbrev pub field_of : Spot → Turn → ℕ → List ℕ → Result Part FieldFault
field_of s turn t b =
    cond (not (familiar t)) (Err (UnfamiliarTag s))
    (cond (not (allowed turn t)) (Err (OutOfTurn s)) (judged s (wrong_length t b) (out_of_range s.file t b) (part_at t b)))

abbrev pub read_piece : Spot → Turn → Result Piece ByteFault → Result Part FieldFault
read_piece s turn (Ok (piece t b)) = field_of s turn t b
read_piece s turn (Err e) = Err (Bytes e)

-- the field at a point where `turn` says what may come
abbrev pub next_field : Turn → Point → Result Part FieldFault
next_field turn p = read_piece (spot_at p) turn (cut_off (spot_at p) p.left)

-- after an end no byte is left
abbrev pub finished : Spot → List ℕ → Result (Unit {0}) ByteFault
finished s [] = Ok tt
finished s (x ∷ xs) = Err (AfterEnd s)

-- the fields' layer carries a fault of the bytes whole
abbrev pub closed : Result (Unit {0}) ByteFault → Result (Unit {0}) FieldFault
closed (Ok u) = Ok u
closed (Err e) = Err (Bytes e)

-- the tag of a field
abbrev pub tag_of : Field → ℕ
tag_of (Header f v) = 0x01
tag_of (Resource c o n) = 0x10
tag_of (Route n) = 0x20
tag_of (Position a b) = 0x21
tag_of End = 0x7f

-- what holds of a field's own parts
abbrev pub Sized : Field → Type 0
Sized (Header f v) = Unit {0}
Sized (Resource c o n) = length n.now ≡ 8
Sized (Route n) = (0 < n) × (n ≤ 128)
Sized (Position a b) = length a.now ≤ 4
Sized End = Unit {0}

-- a field of this tag, with parts of the right size
abbrev pub Shaped : ℕ → Field → Type 0
Shaped t f = (tag_of f ≡ t) × Sized f
