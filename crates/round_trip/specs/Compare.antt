-- Where two lists of bytes first differ.
use Rattle.std.specs.Prelude.{◌≡◌, ℕ, ◌+◌, ◌<◌, ◌≤◌, max, List, length, take, Some, None, Option, ◌≢◌}

-- nowhere; or they agree up to i, and not up to i + 1
abbrev pub Differ : Option ℕ → List ℕ → List ℕ → Type 0
Differ None a b = a ≡ b
Differ (Some i) a b = (take i a ≡ take i b) × (take (i + 1) a ≢ take (i + 1) b)

-- the longest front that they have in common, which is all of both where neither has more
pub record Common (n : ℕ) (a b : List ℕ) : Type 0 where
  pub same : take n a ≡ take n b
  pub longest : n < max (length a) (length b) → take (n + 1) a ≢ take (n + 1) b
  pub all : max (length a) (length b) ≤ n → a ≡ b
