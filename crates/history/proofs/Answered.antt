-- Which answers there are to a call.
use Rattle.std.proofs.Common.{◌≡◌, ℕ, ◌<◌, ◌⊎◌, List, set, Some, Option, sym, subst, inl, inr, Ok, Err}
use Rattle.refusals.specs.declared.Refusal.{Refusal}
use Rattle.tables.specs.Plan.{Plan, first}
use Rattle.history.specs.declared.calls.Call.{Call}
use Rattle.history.specs.declared.calls.Call.TheVariants.{Start, Move, Leave, Clear}
use Rattle.history.specs.Answer.{Answer}
use Rattle.history.specs.declared.calls.Granted.TheVariants.{Moved, Cleared}
use Rattle.history.specs.Calls.{Answers}

-- what is known of a call that was granted
abbrev pub Passed : Plan → (List ℕ → Type 0) → List ℕ → Call → Type 0
Passed t allowed w (Start k j) = (k < 64) × allowed (set w k (first t j))
Passed t allowed w (Move k p) = (k < 64) × allowed (set w k p)
Passed t allowed w (Leave k) = k < 64
Passed t allowed w Clear = ⊥

-- where a check holds, the rest decides whether the call is granted
pub passed : {ok rest : Type 0} {a : Answer} {n : Refusal} → ok → (rest → a ≡ Ok Moved) → (ok × rest) ⊎ ((ok → ⊥) × (a ≡ Err n)) → a ≡ Ok Moved
passed o f (inl h) = f h.1
passed o f (inr h) = absurd (h.0 o)

-- a check that holds hands on to the rest, and one that fails refuses
checked : (P : Answer → Type 0) (a : Answer) {n : Refusal} {ok rest : Type 0} → ((m : Refusal) → P (Err m)) → (ok → rest → P a) → (ok × rest) ⊎ ((ok → ⊥) × (a ≡ Err n)) → P a
checked P a refused f (inl h) = f h.0 h.1
checked P a {n} refused f (inr h) = subst P (sym h.1) (refused n)

-- what holds of every refusal, of a grant that passed, and of whom the rule names, holds of the answer
module _ (t : Plan) (allowed : List ℕ → Type 0) (named : List ℕ → Option ℕ → Type 0) (w : List ℕ) (P : Answer → Type 0) (refused : (n : Refusal) → P (Err n)) where
  pub answered : (c : Call) (a : Answer) → (Passed t allowed w c → P (Ok Moved)) → ((k : ℕ) → named w (Some k) → P (Ok (Cleared k))) → Answers t allowed named w c a → P a
  answered (Start k j) a granted cleared h =
      checked P a refused (λ lt. checked P a refused (λ _. checked P a refused (λ _. checked P a refused (λ ok e. subst P (sym e) (granted (lt, ok)))))) h
  answered (Move k p) a granted cleared h =
      checked P a refused (λ lt. checked P a refused (λ _. checked P a refused (λ _. checked P a refused (λ ok e. subst P (sym e) (granted (lt, ok)))))) h
  answered (Leave k) a granted cleared h = checked P a refused (λ lt. checked P a refused (λ _. checked P a refused (λ _ e. subst P (sym e) (granted lt)))) h
  answered Clear a granted cleared (inl h) = subst P (sym h.2) (cleared h.0 h.1)
  answered Clear a granted cleared (inr h) = subst P (sym h.1) (refused _)
