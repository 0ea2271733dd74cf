-- What each call is answered from the placing before it, and the placing after it.
use Rattle.std.specs.Prelude.{◌≡◌, ℕ, ◌<◌, ◌⊎◌, List, [], Some, None, Option, slice_index_or, slice_set, Ok, Err}
use Rattle.std.specs.List.{ContainsAt as Has}
use Rattle.refusals.specs.declared.Refusal.{Refusal}
use Rattle.refusals.specs.declared.Refusal.TheVariants.{NoSuchPiece, NoSuchRoute, AlreadyOn, NotOn, NotNext, NotLast, StageEmpty, NoRoom}
use Rattle.tables.specs.Plan.{Plan, routes, first, next}
use Rattle.figures.specs.Placing.{off, home_step}
use Rattle.rules.specs.Placing.{On}
use Rattle.history.specs.declared.calls.Call.{Call}
use Rattle.history.specs.declared.calls.Call.TheVariants.{Start, Move, Leave, Clear}
use Rattle.history.specs.Answer.{Answer}
use Rattle.history.specs.declared.calls.Granted.TheVariants.{Moved, Cleared}

-- a check: where it holds the rest decides, else the answer is its refusal
abbrev pub check : Refusal → Type 0 → (Answer → Type 0) → Answer → Type 0
check n ok rest a = (ok × rest a) ⊎ ((ok → ⊥) × (a ≡ Err n))

abbrev pub granted : Answer → Type 0
granted a = a ≡ Ok Moved

-- the next positions of where piece k is
abbrev pub next_of : Plan → List ℕ → ℕ → List ℕ
next_of t w k = next t (slice_index_or w k off)

abbrev pub StartAnswers : Plan → (List ℕ → Type 0) → List ℕ → ℕ → ℕ → Answer → Type 0
StartAnswers t allowed w k j =
    check NoSuchPiece (k < 64) (check NoSuchRoute (j < routes t) (check AlreadyOn (slice_index_or w k off ≡ off) (check NoRoom (allowed (slice_set w k (first t j))) granted)))

abbrev pub MoveAnswers : Plan → (List ℕ → Type 0) → List ℕ → ℕ → ℕ → Answer → Type 0
MoveAnswers t allowed w k p =
    check NoSuchPiece (k < 64) (check NotOn (On w k) (check NotNext (Has (next_of t w k) p) (check NoRoom (allowed (slice_set w k p)) granted)))

abbrev pub LeaveAnswers : Plan → List ℕ → ℕ → Answer → Type 0
LeaveAnswers t w k =
    check NoSuchPiece (k < 64) (check NotOn (On w k) (check NotLast (next_of t w k ≡ []) granted))

-- the piece that the rule names goes; where it names none the stage is empty
abbrev pub ClearAnswers : (List ℕ → Option ℕ → Type 0) → List ℕ → Answer → Type 0
ClearAnswers named w a = ((k : ℕ) × named w (Some k) × (a ≡ Ok (Cleared k))) ⊎ (named w None × (a ≡ Err StageEmpty))

-- what a call is answered, from the placing before it
abbrev pub Answers : Plan → (List ℕ → Type 0) → (List ℕ → Option ℕ → Type 0) → List ℕ → Call → Answer → Type 0
Answers t allowed named w (Start k j) = StartAnswers t allowed w k j
Answers t allowed named w (Move k p) = MoveAnswers t allowed w k p
Answers t allowed named w (Leave k) = LeaveAnswers t w k
Answers t allowed named w Clear = ClearAnswers named w

-- what a granted call does to the placing
abbrev pub done : Plan → List ℕ → Call → List ℕ
done t w (Start k j) = slice_set w k (first t j)
done t w (Move k p) = slice_set w k p
done t w (Leave k) = slice_set w k off
done t w Clear = w

-- the placing after a call and its answer; a refusal changes nothing
abbrev pub after : Plan → List ℕ → Call → Answer → List ℕ
after t w c (Ok Moved) = done t w c
after t w c (Ok (Cleared k)) = home_step t w k
after t w c (Err n) = w
