-- Files as cases have them: their bytes in lower-case hexadecimal.
use Rattle.std.specs.Prelude.{◌≡◌, ℕ, ◌/◌, ◌%◌, ◌<◌, false, List, [], ◌∷◌, ◌++◌, Some, None, codes, Option, ◌≢◌}
use Rattle.std.specs.Fmt.{digit_glyph}

-- the digit of a number below 16: '0' to '9', 'a' to 'f'
abbrev pub digit : ℕ → ℕ
digit n = digit_glyph false n

-- what a digit stands for; of anything else, that it is no digit
abbrev pub Nibble : ℕ → Option ℕ → Type 0
Nibble c (Some n) = (n < 16) × (c ≡ digit n)
Nibble c None = (n : ℕ) → n < 16 → c ≢ digit n

-- the byte of two digits; of anything else, that they are of none
abbrev pub Byte : ℕ → ℕ → Option ℕ → Type 0
Byte high low (Some b) = (b < 256) × (high ≡ digit (b / 16)) × (low ≡ digit (b % 16))
Byte high low None = (b : ℕ) → b < 256 → high ≡ digit (b / 16) → low ≢ digit (b % 16)

abbrev pub hex : List ℕ → List ℕ
hex [] = []
hex (b ∷ bs) = digit (b / 16) ∷ (digit (b % 16) ∷ hex bs)

-- a file in a case: an empty one is a dash
abbrev pub spelling : List ℕ → List ℕ
spelling [] = codes "-"
spelling (b ∷ bs) = hex (b ∷ bs)

abbrev pub Bytes : List ℕ → Type 0
Bytes [] = Unit {0}
Bytes (b ∷ bs) = (b < 256) × Bytes bs

-- the bytes that are written so; of any other text, that no bytes are
abbrev pub Reads : (List ℕ → List ℕ) → List ℕ → Option (List ℕ) → Type 0
Reads written text (Some bs) = text ≡ written bs
Reads written text None = (bs : List ℕ) → Bytes bs → text ≢ written bs

-- the same of two files with a space between them
abbrev pub ReadsPair : List ℕ → Option (List ℕ × List ℕ) → Type 0
ReadsPair text (Some (venue, show)) = text ≡ spelling venue ++ (codes " " ++ spelling show)
ReadsPair text None = (venue show : List ℕ) → Bytes venue → Bytes show → text ≢ spelling venue ++ (codes " " ++ spelling show)

-- a text as two with a space between them, which are two files as they are written if any are written so
pub record Cut (text front back : List ℕ) : Type 0 where
  pub parts : text ≡ front ++ (codes " " ++ back)
  pub only : (venue show : List ℕ) → text ≡ spelling venue ++ (codes " " ++ spelling show) → (front ≡ spelling venue) × (back ≡ spelling show)

-- the texts at either side of the first space; of a text with none, that it is of no two files
abbrev pub Halves : List ℕ → Option (List ℕ × List ℕ) → Type 0
Halves text (Some (front, back)) = Cut text front back
Halves text None = ReadsPair text None
