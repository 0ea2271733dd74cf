-- The lowest order of a position, its claim on a resource with the position that sets it, and its peak need.
use Rattle.std.specs.Prelude.{◌≡◌, ℕ, zero, suc, ◌<◌, ◌≤◌, min, max, Bool, cond, List, [], ◌∷◌, length, ◌==◌, nat_lt, slice_index, slice_index_or}
use Rattle.tables.specs.Plan.{Plan, kinds, count, order, need}
use Rattle.figures.specs.declared.claim.Claim.{Claim}
use Rattle.figures.specs.declared.claim.ResourceFigures.{ResourceFigures}
use Rattle.figures.specs.Way.{along, after, figure}

-- the least order among the first n resources that p needs, 256 if it needs none
abbrev pub lowest_of : Plan → ℕ → ℕ → ℕ
lowest_of t p zero = 256
lowest_of t p (suc r) = cond (need t p r == 0) (lowest_of t p r) (min (order t r) (lowest_of t p r))

abbrev pub lowest : Plan → ℕ → ℕ
lowest t p = lowest_of t p (kinds t)

-- the row has the lowest order of each position
abbrev pub LowestHeld : Plan → List ℕ → Type 0
LowestHeld t row = (p : ℕ) → p < count t → slice_index row p ≡ lowest t p

-- and is no shorter than the show, which numbers its positions below 128
pub record LowestOrders (t : Plan) (row : List ℕ) : Type 0 where
  pub each : LowestHeld t row
  pub long : count t ≤ length row
  pub few : count t ≤ 128

-- r's order is below p's lowest order: p makes no claim on it
abbrev pub below : Plan → ℕ → ℕ → Bool
below t r p = nat_lt (order t r) (lowest t p)

-- the larger of p's need and its main next's claim; 0 on an order below p's lowest
abbrev pub claim : Plan → ℕ → ℕ → ℕ
claim t r p = figure t (λ q. cond (below t r q) 0 (need t q r)) (λ q next. cond (below t r q) 0 (max (need t q r) next)) p

abbrev pub made : ℕ → ℕ → Claim
made n p = record { amount = n; position = p }

-- a claim with the position that sets it, at a last position and before a known main next
abbrev pub claim_ending : Plan → ℕ → ℕ → Claim
claim_ending t r p = made (cond (below t r p) 0 (need t p r)) p

abbrev pub claim_leading : Plan → ℕ → ℕ → Claim → Claim
claim_leading t r p next = cond (below t r p) (made 0 p) (cond (nat_lt (need t p r) next.amount) next (made (need t p r) p))

-- the claim along a way home that is p and then qs
abbrev pub claim_along : Plan → ℕ → ℕ → List ℕ → ℕ
claim_along t r p qs = along (λ q. cond (below t r q) 0 (need t q r)) (λ q next. cond (below t r q) 0 (max (need t q r) next)) p qs

-- the nearest of p and then qs that needs n of r
abbrev pub nearest : Plan → ℕ → ℕ → ℕ → List ℕ → ℕ
nearest t r n p [] = p
nearest t r n p (q ∷ qs) = cond (need t p r == n) p (nearest t r n q qs)

-- the position that sets the claim of p on r: the nearest on the way home with that need; for claim 0 it is p
abbrev pub setter : Plan → ℕ → ℕ → ℕ
setter t r p = cond (claim t r p == 0) p (nearest t r (claim t r p) p (after t p))

abbrev pub claim_of : Plan → ℕ → ℕ → Claim
claim_of t r p = made (claim t r p) (setter t r p)

-- the peak need of r along the way home of p
abbrev pub peak : Plan → ℕ → ℕ → ℕ
peak t r p = figure t (λ q. need t q r) (λ q next. max (need t q r) next) p

-- the figures of resource r, of a list with those of each
abbrev pub of_resource : List ResourceFigures → ℕ → ResourceFigures
of_resource rows r = slice_index_or rows r (record { claims = []; peaks = [] })

-- the claim that they have for r and p
abbrev pub claim_in : List ResourceFigures → ℕ → ℕ → Claim
claim_in rows r p = slice_index_or (of_resource rows r).claims p (made 0 0)

-- all 16 have the claims of each position, and the positions that set them
abbrev pub AmountsHeld : Plan → List ResourceFigures → Type 0
AmountsHeld t rows = (r p : ℕ) → (r < 16) × (p < count t) → (claim_in rows r p).amount ≡ claim t r p

abbrev pub SettersHeld : Plan → List ResourceFigures → Type 0
SettersHeld t rows = (r p : ℕ) → (r < 16) × (p < count t) → (claim_in rows r p).position ≡ setter t r p

-- the peak need that they have for r and p
abbrev pub peak_in : List ResourceFigures → ℕ → ℕ → ℕ
peak_in rows r p = slice_index (of_resource rows r).peaks p

-- all 16 have the peak needs of each position
abbrev pub PeaksHeld : Plan → List ResourceFigures → Type 0
PeaksHeld t rows = (r p : ℕ) → (r < 16) × (p < count t) → peak_in rows r p ≡ peak t r p

-- these are the figures of r: the claim and the peak need of each position
pub record FiguresHeld (t : Plan) (r : ℕ) (held : ResourceFigures) : Type 0 where
  pub claims : (p : ℕ) → p < count t → slice_index_or held.claims p (made 0 0) ≡ claim_of t r p
  pub peaks : (p : ℕ) → p < count t → slice_index held.peaks p ≡ peak t r p
