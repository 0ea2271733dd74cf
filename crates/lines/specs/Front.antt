-- The front of a line that is kept.
use Rattle.std.specs.Prelude.{◌≡◌, ℕ, List, take}
use Rattle.lines.specs.declared.pending.Pending.{Pending}

-- what is kept are the first 18 bytes of the line
abbrev pub Holds : Pending → List ℕ → Type 0
Holds p line = take p.count p.bytes ≡ take 18 line
