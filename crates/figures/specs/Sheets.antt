-- What a sheet answers, and what it leaves in the row.
use Rattle.std.specs.Prelude.{◌≡◌, ℕ, ◌<◌, ◌≤◌, ◌⊎◌, List, ◌++◌, length, drop, Ok, Err, Result, slice_index_or}
use Rattle.refusals.specs.declared.Refusal.{Refusal}
use Rattle.refusals.specs.declared.Refusal.TheVariants.{NoSuchResource, RowTooShort}
use Rattle.tables.specs.Plan.{Plan, kinds, count}
use Rattle.figures.specs.declared.claim.Claim.{Claim}
use Rattle.figures.specs.Claims.{claim_of}

-- the row has figure f of each position, and behind those what it had before; a row shorter than the show is left as it was
abbrev pub Sheet : {V : Type 0} → Plan → (ℕ → V) → List V → Result (Unit {0}) Refusal → List V → Type 0
Sheet {V} t f before (Ok _) after = (count t ≤ length before) × ((p : ℕ) (d : V) → p < count t → slice_index_or after p d ≡ f p) × (drop (count t) after ≡ drop (count t) before)
Sheet {V} t f before (Err e) after = (length before < count t) × (e ≡ RowTooShort) × (after ≡ before)

-- the sheet of the claims on r; the resource is asked for first
abbrev pub ClaimSheet : Plan → ℕ → List Claim → Result (Unit {0}) Refusal → List Claim → Type 0
ClaimSheet t r before answer after = ((kinds t ≤ r) × (answer ≡ Err NoSuchResource) × (after ≡ before)) ⊎ ((r < kinds t) × Sheet t (claim_of t r) before answer after)

-- xs at the front of a row, or the row too short and as it was
abbrev pub Copied : {V : Type 0} → List V → List V → Result (Unit {0}) Refusal → List V → Type 0
Copied xs before (Ok _) after = (length xs ≤ length before) × (after ≡ xs ++ drop (length xs) before)
Copied xs before (Err e) after = (length before < length xs) × (e ≡ RowTooShort) × (after ≡ before)
