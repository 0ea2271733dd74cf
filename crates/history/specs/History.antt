-- Histories: calls with their answers, and what every history keeps.
use Rattle.std.specs.Prelude.{◌≡◌, ℕ, ◌<◌, ◌≤◌, List, [], ◌∷◌, ◌++◌, map, length, Option, Ok, Err}
use Rattle.refusals.specs.declared.Refusal.TheVariants.{NoRoom}
use Rattle.tables.specs.Plan.{Plan}
use Rattle.figures.specs.Placing.{distance}
use Rattle.rules.specs.Placing.{On, Fits, nobody}
use Rattle.history.specs.declared.calls.Call.{Call}
use Rattle.history.specs.declared.calls.Call.TheVariants.{Start, Clear}
use Rattle.history.specs.Answer.{Answer}
use Rattle.history.specs.declared.calls.Granted.TheVariants.{Moved, Cleared}
use Rattle.history.specs.Calls.{Answers, after}

-- the newest call first
abbrev pub History : Type 0
History = List (Call × Answer)

-- the placing of a history: it follows from the show, the calls and the answers alone
abbrev pub placing : Plan → History → List ℕ
placing t [] = nobody
placing t (e ∷ h) = after t (placing t h) e.0 e.1

-- every call was answered as it must be from the placing before it
abbrev pub Right : Plan → (List ℕ → Type 0) → (List ℕ → Option ℕ → Type 0) → History → Type 0
Right t allowed named [] = Unit {0}
Right t allowed named (e ∷ h) = Answers t allowed named (placing t h) e.0 e.1 × Right t allowed named h

-- nothing but clear was called, with these answers, the newest first
abbrev pub clears : List Answer → History
clears answers = map (λ a. (Clear, a)) answers

-- all of them were granted
abbrev pub AllCleared : List Answer → Type 0
AllCleared [] = Unit {0}
AllCleared (a ∷ answers) = ((k : ℕ) × (a ≡ Ok (Cleared k))) × AllCleared answers

-- what every history keeps, at its moment, D being the distance home
pub record Kept (t : Plan) (allowed : List ℕ → Type 0) (named : List ℕ → Option ℕ → Type 0) (h : History) : Type 0 where
  -- for each resource the amounts held come to at most the capacity
  pub fits : Fits t (placing t h)
  pub near : distance t (placing t h) ≤ 8192
  -- if only clear is called, the next D calls are all granted, any fewer leave a piece on, and after all D the stage is empty
  pub granted : (answers : List Answer) → Right t allowed named (clears answers ++ h) → length answers ≤ distance t (placing t h) → AllCleared answers
  pub fewer : (answers : List Answer) → Right t allowed named (clears answers ++ h) → length answers < distance t (placing t h) → (k : ℕ) × On (placing t (clears answers ++ h)) k
  pub emptied : (answers : List Answer) → Right t allowed named (clears answers ++ h) → length answers ≡ distance t (placing t h) → placing t (clears answers ++ h) ≡ nobody
  -- a start that found no room, given again directly after those D calls, is granted
  pub started : (k j : ℕ) (past : History) → h ≡ (Start k j, Err NoRoom) ∷ past → (answers : List Answer) → length answers ≡ distance t (placing t h)
      → (a : Answer) → Right t allowed named ((Start k j, a) ∷ (clears answers ++ h)) → a ≡ Ok Moved

-- the history stands at a placing: it is right, and leads there
pub record Stands (t : Plan) (allowed : List ℕ → Type 0) (named : List ℕ → Option ℕ → Type 0) (h : History) (w : List ℕ) : Type 0 where
  pub right : Right t allowed named h
  pub there : placing t h ≡ w

-- the promise of a call from placing w to placing v: whatever history stands at w, with this call and its answer it stands at v, and keeps what every history keeps
abbrev pub Promised : Plan → (List ℕ → Type 0) → (List ℕ → Option ℕ → Type 0) → List ℕ → Call → Answer → List ℕ → Type 0
Promised t allowed named w c a v = (h : History) → Stands t allowed named h w → Stands t allowed named ((c, a) ∷ h) v × Kept t allowed named ((c, a) ∷ h)
