-- What a file's fields have to keep: for each refusal number of files one test, over what was read before and the field.
use Rattle.std.specs.Prelude.{ℕ, zero, suc, ◌+◌, ◌-◌, Bool, false, cond, not, ◌||◌, ltb, leb, List, [], ◌∷◌, ◌++◌, length, drop, ◌==◌, nat_le, nat_lt, slice_index}
use Rattle.refusals.specs.declared.Refusal.{Refusal}
use Rattle.refusals.specs.declared.Refusal.TheVariants.{HeadCut, BodyCut, UnfamiliarTag, OutOfTurn, WrongLength, OutOfRange, TooMany, AfterEnd, WrongNext, NotInVenue, AboveCapacity}
use Rattle.fields.specs.Bytes.{word, tag, body, head_cut, body_cut, Point}
use Rattle.fields.specs.Fields.{by_tag, familiar, allowed, wrong_length, out_of_range, front, next_bytes, need_bytes}
use Rattle.fields.specs.declared.spot.File.{File}
use Rattle.fields.specs.declared.spot.File.TheVariants.{Venue, Show}
use Rattle.fields.specs.declared.field.Turn.{Turn}
use Rattle.fields.specs.declared.field.Turn.TheVariants.{Head, FirstResource, MoreResources, FirstRoute, MoreRoutes, InRoute}
use Rattle.tables.specs.declared.resource.Resource.{Resource}
use Rattle.tables.specs.Model.{Pos}
use Rattle.tables.specs.Valid.{nexts_ok, capacity_at}

-- before the header, behind it, behind the end
pub data Moment : Type 0 where
  outset : Moment
  inside : Moment
  over : Moment

-- what was read so far: the resources (in a show file those of its venue), how many positions each route has, the
-- positions, and how many positions are still to come in the route that is being read
pub record Context : Type 0 where
  pub moment : Moment
  pub resources : List Resource
  pub counts : List ℕ
  pub positions : List Pos
  pub pending : ℕ

-- what may come behind the header
abbrev pub turn_inside : File → Context → Turn
turn_inside Venue c = cond (length c.resources == 0) FirstResource MoreResources
turn_inside Show c = cond (c.pending == 0) (cond (length c.counts == 0) FirstRoute MoreRoutes) InRoute

abbrev pub turn_at : Moment → File → Context → Turn
turn_at outset f c = Head
turn_at inside f c = turn_inside f c
turn_at over f c = Head

abbrev pub some : {X : Type 0} → (X → Bool) → List X → Bool
some p [] = false
some p (x ∷ xs) = p x || some p xs

-- needs of three bytes each: resource number and amount
abbrev pub needs_in : List ℕ → List (ℕ × ℕ)
needs_in [] = []
needs_in (r ∷ []) = []
needs_in (r ∷ h ∷ []) = []
needs_in (r ∷ h ∷ l ∷ more) = (r, word h l) ∷ needs_in more

-- a 17th resource; a 17th route, or one that takes the total above 128
abbrev pub too_many : Context → ℕ → List ℕ → Bool
too_many c t b =
    by_tag t false (nat_le 16 (length c.resources)) (nat_le 16 (length c.counts) || nat_lt 128 (length c.positions + front b)) false false

-- a next position that is not beyond its own, not in the same route, or named twice
abbrev pub wrong_next : Context → ℕ → List ℕ → Bool
wrong_next c t b =
    by_tag t false false false (not (nexts_ok (length c.positions) (length c.positions + c.pending) (next_bytes b))) false

-- a need of a resource that the venue has not
abbrev pub lacks : List Resource → List ℕ → Bool
lacks rs needs = some (λ n. leb (length rs) n.0) (needs_in needs)

-- a need above its resource's capacity
abbrev pub exceeds : List Resource → List ℕ → Bool
exceeds rs needs = some (λ n. ltb (capacity_at rs n.0) n.1) (needs_in needs)

abbrev pub not_in_venue : Context → ℕ → List ℕ → Bool
not_in_venue c t b = by_tag t false false false (lacks c.resources (need_bytes b)) false

abbrev pub above_capacity : Context → ℕ → List ℕ → Bool
above_capacity c t b = by_tag t false false false (exceeds c.resources (need_bytes b)) false

pub record Rule : Type 0 where
  pub refusal : Refusal
  pub broken : Bool

abbrev pub rule : Refusal → Bool → Rule
rule r b = record { refusal = r; broken = b }

-- where a field has to stand, by rising number
abbrev pub field_rules : Turn → Context → Point → List Rule
field_rules turn c p =
    rule HeadCut (head_cut p.left)
    ∷ rule BodyCut (body_cut p.left)
    ∷ rule UnfamiliarTag (not (familiar (tag p.left)))
    ∷ rule OutOfTurn (not (allowed turn (tag p.left)))
    ∷ rule WrongLength (wrong_length (tag p.left) (body p.left))
    ∷ rule OutOfRange (out_of_range p.file (tag p.left) (body p.left))
    ∷ rule TooMany (too_many c (tag p.left) (body p.left))
    ∷ rule WrongNext (wrong_next c (tag p.left) (body p.left))
    ∷ rule NotInVenue (not_in_venue c (tag p.left) (body p.left))
    ∷ rule AboveCapacity (above_capacity c (tag p.left) (body p.left))
    ∷ []

-- behind the end no byte may stand
abbrev pub rules_at : Moment → Context → Point → List Rule
rules_at outset c p = field_rules Head c p
rules_at inside c p = field_rules (turn_inside p.file c) c p
rules_at over c p = rule AfterEnd (not (length p.left == 0)) ∷ []

abbrev pub rules : Context → Point → List Rule
rules c p = rules_at c.moment c p

abbrev pub resource_at : List ℕ → Resource
resource_at b = record { capacity = front b; order = slice_index b 2; name = drop 3 b }

-- n needs from resource i on, 0 where none is named; the numbers rise
abbrev pub row_of_needs : ℕ → ℕ → List ℕ → List ℕ
row_of_needs zero i needs = []
row_of_needs (suc n) i [] = 0 ∷ row_of_needs n (i + 1) []
row_of_needs (suc n) i (r ∷ []) = 0 ∷ row_of_needs n (i + 1) (r ∷ [])
row_of_needs (suc n) i (r ∷ h ∷ []) = 0 ∷ row_of_needs n (i + 1) (r ∷ h ∷ [])
row_of_needs (suc n) i (r ∷ h ∷ l ∷ more) = cond (r == i) (word h l ∷ row_of_needs n (i + 1) more) (0 ∷ row_of_needs n (i + 1) (r ∷ h ∷ l ∷ more))

abbrev pub position_at : List ℕ → Pos
position_at b = record { nexts = next_bytes b; needs = row_of_needs 16 0 (need_bytes b) }

-- what was read so far, with the field of this tag and body
abbrev pub with_field : Context → ℕ → List ℕ → Context
with_field c t b =
    by_tag t
    (record { moment = inside; resources = c.resources; counts = c.counts; positions = c.positions; pending = c.pending })
    (record { moment = c.moment; resources = c.resources ++ resource_at b ∷ []; counts = c.counts; positions = c.positions; pending = c.pending })
    (record { moment = c.moment; resources = c.resources; counts = c.counts ++ front b ∷ []; positions = c.positions; pending = front b })
    (record { moment = c.moment; resources = c.resources; counts = c.counts; positions = c.positions ++ position_at b ∷ []; pending = c.pending - 1 })
    (record { moment = over; resources = c.resources; counts = c.counts; positions = c.positions; pending = c.pending })
