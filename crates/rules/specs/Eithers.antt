-- What the either rule names goes.
use Rattle.std.specs.Prelude.{ℕ, ◌⊎◌, List, Some, None, Option}
use Rattle.std.proofs.Common.{inl, inr, ⊎_elim}
use Rattle.tables.specs.Plan.{Plan}
use Rattle.rules.specs.Rule.{Names}

module _ (P Q : List ℕ → Type 0) (t : Plan) (w : List ℕ) where
  pub names-first : (r : Option ℕ) → P w → Names P t w r → Names (λ v. P v ⊎ Q v) t w r
  names-first None p h = λ _. h p
  names-first (Some k) p h = (inl h.0, h.1, inl h.2)

  pub names-second : (r : Option ℕ) → (P w → ⊥) → Names Q t w r → Names (λ v. P v ⊎ Q v) t w r
  names-second None n h = ⊎_elim (λ p. absurd (n p)) h
  names-second (Some k) n h = (inr h.0, h.1, inr h.2)
