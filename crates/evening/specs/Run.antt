-- A run: calls, their answers, and the home figures after each.
use Rattle.std.specs.Prelude.{◌≡◌, ℕ, ◌+◌, ◌<◌, ◌≤◌, List, [], ◌∷◌, map, length, take, Option, slice_index_or}
use Rattle.tables.specs.Plan.{Plan}
use Rattle.figures.specs.Placing.{distance}
use Rattle.rules.specs.Placing.{on_count}
use Rattle.history.specs.History.{History, placing, Right, Kept}
use Rattle.evening.specs.declared.step.Step.{Step}

-- the history of steps on top of h, the newest step being the last
abbrev pub on_top : History → List Step → History
on_top h [] = h
on_top h (s ∷ steps) = on_top ((s.call, s.answer) ∷ h) steps

-- the history after the first n steps
abbrev pub after : List Step → ℕ → History
after steps n = on_top [] (take n steps)

-- the home figures of a step are those of the placing of a history
pub record HomeAt (t : Plan) (h : History) (s : Step) : Type 0 where
  pub pieces : s.pieces ≡ on_count (placing t h)
  pub distance : s.distance ≡ distance t (placing t h)

-- at every moment of the run every answer so far is right and the promise is kept, and each step has the home figures after it
pub record Run (t : Plan) (allowed : List ℕ → Type 0) (named : List ℕ → Option ℕ → Type 0) (before steps : List Step) : Type 0 where
  -- the calls are those that were asked for
  pub calls : map (λ s. s.call) steps ≡ map (λ s. s.call) before
  pub right : (n : ℕ) → n ≤ length steps → Right t allowed named (after steps n)
  pub kept : (n : ℕ) → n ≤ length steps → Kept t allowed named (after steps n)
  pub home : (n : ℕ) (d : Step) → n < length steps → HomeAt t (after steps (n + 1)) (slice_index_or steps n d)
