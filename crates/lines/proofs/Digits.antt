-- Digits, one by one.
use Rattle.std.proofs.Common.{◌≡◌, ℕ, List, arith}
use Rattle.std.specs.List.{AllByRecursion as All}
use Rattle.std.proofs.ByRecursion.{All-weaker}
use Rattle.lines.specs.Lines.{Digit, Number, space}

-- no digit is a space
pub no-space : (ds : List ℕ) (n : ℕ) → Number ds n → All (λ x. x ≡ space → ⊥) ds
no-space ds n h = All-weaker Digit (λ x. x ≡ space → ⊥) (λ x d e. omega (arith, d.0, e)) ds h.digits
