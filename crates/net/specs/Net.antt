-- The controlled net: places, transitions, and the marking that firing along a history gives.
use Rattle.std.specs.Prelude.{◌≡◌, ℕ, ◌+◌, ◌-◌, ◌<◌, ◌≤◌, cond, List, [], ◌∷◌, sum_by, Option, ◌==◌, slice_index_or, Ok, Err}
use Rattle.std.specs.List.{ContainsAt as Has}
use Rattle.tables.specs.Plan.{Plan, kinds, routes, count, capacity, first, need}
use Rattle.figures.specs.Claims.{claim}
use Rattle.figures.specs.Placing.{off, if_on, stepped}
use Rattle.rules.specs.Placing.{On, held, total}
use Rattle.rules.specs.Ordered.{Ordered, OrderedNames}
use Rattle.history.specs.declared.calls.Call.{Call}
use Rattle.history.specs.declared.calls.Call.TheVariants.{Start, Move, Leave, Clear}
use Rattle.history.specs.Answer.{Answer}
use Rattle.history.specs.declared.calls.Granted.TheVariants.{Moved, Cleared}
use Rattle.history.specs.Calls.{next_of, Answers, after}
use Rattle.history.specs.History.{History, placing, Stands, Promised}

-- one place a position, one idle, and for each resource a resource place and a control place
pub data Place : Type 0 where
  Position : ℕ → Place
  Idle : Place
  Resource : ℕ → Place
  Control : ℕ → Place

-- the places of a show
abbrev pub IsPlace : Plan → Place → Type 0
IsPlace t (Position p) = p < count t
IsPlace t Idle = Unit {0}
IsPlace t (Resource r) = r < kinds t
IsPlace t (Control r) = r < kinds t

abbrev pub Marking : Type 0
Marking = Place → ℕ

-- all tokens are idle, and the whole capacity is free
abbrev pub initial : Plan → Marking
initial t (Position p) = 0
initial t Idle = 64
initial t (Resource r) = capacity t r
initial t (Control r) = capacity t r

abbrev pub one : ℕ → ℕ → ℕ
one p q = cond (p == q) 1 0

-- what a transition from p to q takes from a place, off standing for idle, which needs and claims nothing
abbrev pub takes : Plan → ℕ → ℕ → Marking
takes t p q (Position x) = one p x
takes t p q Idle = one p off
takes t p q (Resource r) = if_on (λ x. need t x r) q - if_on (λ x. need t x r) p
takes t p q (Control r) = if_on (claim t r) q - if_on (claim t r) p

-- what it gives, which is what the way back takes
abbrev pub gives : Plan → ℕ → ℕ → Marking
gives t p q place = takes t q p place

-- every place holds what the transition takes
abbrev pub Enabled : Plan → Marking → ℕ → ℕ → Type 0
Enabled t m p q = (place : Place) → IsPlace t place → takes t p q place ≤ m place

abbrev pub fire : Plan → ℕ → ℕ → Marking → Marking
fire t p q m place = (m place - takes t p q place) + gives t p q place

-- the piece that a call speaks of, and where the call would take it
abbrev pub piece_of : Call → ℕ
piece_of (Start k j) = k
piece_of (Move k p) = k
piece_of (Leave k) = k
piece_of Clear = 64

abbrev pub target : Plan → Call → ℕ
target t (Start k j) = first t j
target t (Move k p) = p
target t (Leave k) = off
target t Clear = off

-- where a call finds its piece
abbrev pub source : List ℕ → Call → ℕ
source w c = slice_index_or w (piece_of c) off

-- a granted start, move or leave fires its transition, a granted clear that of its step home
abbrev pub fired : Plan → List ℕ → Call → Answer → Marking → Marking
fired t w c (Ok Moved) m = fire t (source w c) (target t c) m
fired t w c (Ok (Cleared k)) m = fire t (slice_index_or w k off) (stepped t (slice_index_or w k off)) m
fired t w c (Err n) m = m

-- the marking that firing along a history gives
abbrev pub marking : Plan → History → Marking
marking t [] = initial t
marking t (e ∷ h) = fired t (placing t h) e.0 e.1 (marking t h)

-- the counts that a placing has: pieces at a position, pieces off, what is free of a resource, and what is not claimed of it
abbrev pub counts : Plan → List ℕ → Marking
counts t w (Position p) = sum_by (λ x. one x p) w
counts t w Idle = sum_by (λ x. one x off) w
counts t w (Resource r) = capacity t r - held t r w
counts t w (Control r) = capacity t r - total (claim t r) w

-- the checks of a start, move or leave before the rule is asked
abbrev pub Checked : Plan → List ℕ → Call → Type 0
Checked t w (Start k j) = (k < 64) × (j < routes t) × (slice_index_or w k off ≡ off)
Checked t w (Move k p) = (k < 64) × On w k × Has (next_of t w k) p
Checked t w (Leave k) = (k < 64) × On w k × (next_of t w k ≡ [])
Checked t w Clear = ⊥

-- of every history that stands at w: the checks passed, the call is granted exactly if its transition is enabled in the history's marking;
-- and after the call every place has what firing gives
pub record AsTheNet (t : Plan) (allowed : List ℕ → Type 0) (named : List ℕ → Option ℕ → Type 0) (w : List ℕ) (c : Call) (a : Answer) (v : List ℕ) : Type 0 where
  pub grants : (h : History) → Stands t allowed named h w → Checked t w c → Enabled t (marking t h) (source w c) (target t c) → a ≡ Ok Moved
  pub only : (h : History) → Stands t allowed named h w → Checked t w c → a ≡ Ok Moved → Enabled t (marking t h) (source w c) (target t c)
  pub counted : (h : History) → Stands t allowed named h w → (place : Place) → IsPlace t place → counts t v place ≡ marking t ((c, a) ∷ h) place

-- what a call under the ordered rule promises, from placing w to placing v
pub record OrderedCall (t : Plan) (w : List ℕ) (c : Call) (a : Answer) (v : List ℕ) : Type 0 where
  pub answer : Answers t (Ordered t) (OrderedNames t) w c a
  pub placing : v ≡ after t w c a
  pub promise : Promised t (Ordered t) (OrderedNames t) w c a v
  pub net : AsTheNet t (Ordered t) (OrderedNames t) w c a v
