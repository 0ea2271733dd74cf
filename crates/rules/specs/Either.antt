-- The either rule.
use Rattle.std.specs.Prelude.{ℕ, ◌⊎◌, List, Option}

-- the placings that one of two rules allows
abbrev pub Either : (List ℕ → Type 0) → (List ℕ → Type 0) → List ℕ → Type 0
Either first second w = first w ⊎ second w

-- it names what the first names if the first allows, else what the second names
abbrev pub EitherNames : (List ℕ → Type 0) → (Option ℕ → Type 0) → (Option ℕ → Type 0) → List ℕ → Option ℕ → Type 0
EitherNames first firstNames secondNames w r = (first w × firstNames r) ⊎ ((first w → ⊥) × secondNames r)
