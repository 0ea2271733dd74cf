-- The texts of a sheet.
use Rattle.std.specs.Prelude.{◌≡◌, ℕ, ◌/◌, ◌%◌, ◌<◌, max, Bool, false, cond, not, ◌&&◌, List, [], ◌∷◌, ◌++◌, map, length, string_bytes, string_len, codes, decimal, fold, String, ◌==◌, nat_le, slice_index_or}
use Rattle.std.specs.List.{flat_map, join_by}
use Rattle.std.specs.Fmt.{digit_glyph}
use Rattle.std.specs.declared.alloc.Global.{Global}
use Rattle.tables.specs.Plan.{Plan, kinds}
use Rattle.figures.specs.declared.claim.Claim.{Claim}
use Rattle.figures.specs.Claims.{claim_of}

-- printable ASCII, but for the backslash
abbrev pub plain : ℕ → Bool
plain b = (nat_le 32 b && nat_le b 126) && not (b == 92)

-- a byte of a name: as it is, or as \xNN in lower case
abbrev pub shown : ℕ → List ℕ
shown b = cond (plain b) (b ∷ []) (92 ∷ (120 ∷ (digit_glyph false (b / 16) ∷ (digit_glyph false (b % 16) ∷ []))))

-- a name between quotation marks
abbrev pub quotation : List ℕ → List ℕ
quotation name = 34 ∷ (flat_map shown name ++ 34 ∷ [])

-- how long the longest of some texts is
abbrev pub longest : List (String Global) → ℕ
longest texts = fold (λ n text. max n (string_len text)) 0 texts

-- texts one after another, with `sep` between each two; of no text, `none`
abbrev pub listing : List ℕ → List ℕ → List (List ℕ) → List ℕ
listing none sep [] = none
listing none sep (x ∷ xs) = join_by (λ t. t) sep (x ∷ xs)

-- the next positions in the order in which they are named
abbrev pub text_of_nexts : List ℕ → List ℕ
text_of_nexts nexts = listing (codes "last") (codes " ") (map decimal nexts)

-- a text for each name whose amount is not 0
abbrev pub told : {X : Type 0} → (X → ℕ) → (String Global → X → List ℕ) → List (String Global × X) → List (List ℕ)
told amount text [] = []
told amount text ((name, x) ∷ more) = cond (amount x == 0) (told amount text more) (text name x ∷ told amount text more)

-- a need: a resource's name and the amount
abbrev pub need_text : String Global → ℕ → List ℕ
need_text name n = string_bytes name ++ (codes " " ++ decimal n)

-- a resource that is needed: its name and the amount
abbrev pub needed : List (String Global × ℕ) → List (List ℕ)
needed pairs = told (λ n. n) (λ name n. string_bytes name ++ (codes " " ++ decimal n)) pairs

abbrev pub text_of_needs : List (String Global × ℕ) → List ℕ
text_of_needs pairs = listing (codes "nothing") (codes ", ") (needed pairs)

-- a claim: a resource's name, the amount and the position that sets it
abbrev pub claim_text : String Global → Claim → List ℕ
claim_text name c = string_bytes name ++ (codes " " ++ (decimal c.amount ++ (codes " set by " ++ decimal c.position)))

-- a resource that is claimed: its name, the amount and the position that sets the claim
abbrev pub claimed : List (String Global × Claim) → List (List ℕ)
claimed pairs = told (λ c. c.amount) (λ name c. string_bytes name ++ (codes " " ++ (decimal c.amount ++ (codes " set by " ++ decimal c.position)))) pairs

abbrev pub text_of_claims : List (String Global × Claim) → List ℕ
text_of_claims pairs = listing (codes "nothing") (codes ", ") (claimed pairs)

-- the claims of a position, by resource
pub record ClaimsAt (t : Plan) (p : ℕ) (claims : List Claim) : Type 0 where
  pub all : length claims ≡ kinds t
  pub each : (r : ℕ) (d : Claim) → r < kinds t → slice_index_or claims r d ≡ claim_of t r p

-- the file, the number, the place and the byte
abbrev pub text_of_refusal : ℕ → ℕ → ℕ → ℕ → List ℕ
text_of_refusal file number place byte = decimal file ++ (codes " " ++ (decimal number ++ (codes " " ++ (decimal place ++ (codes " " ++ decimal byte)))))
