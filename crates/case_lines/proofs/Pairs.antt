-- Two files with a space between them, where the text was cut at its first space.
use Rattle.std.proofs.Common.{◌≡◌, ℕ, zero, suc, ◌/◌, ◌%◌, ◌<◌, ◌≤◌, List, [], ◌∷◌, length, get_or, Some, None, Option, arith, lit<, Bor}
use Rattle.std.proofs.lemmas.Str.Pattern.{IsSplitOnceResult, split_after, split_parts}
use Rattle.std.proofs.lemmas.Bool.Decides.{nat_tests}
use Rattle.std.specs.Option.{option_map}
use Rattle.case_lines.specs.Hex.{digit, hex, spelling, Halves}

digit-high : (n : ℕ) → 48 ≤ digit n
digit-high n = grind (arith, nat_tests)

no-space-hex : (bs : List ℕ) (i : ℕ) → i < length (hex bs) → get_or (hex bs) i 0 ≡ 32 → ⊥
no-space-hex [] i h e = omega arith
no-space-hex (b ∷ bs) zero h e = omega (arith, digit-high (b / 16))
no-space-hex (b ∷ bs) (suc zero) h e = omega (arith, digit-high (b % 16))
no-space-hex (b ∷ bs) (suc (suc i)) h e = no-space-hex bs i (omega arith) e

no-space : (bs : List ℕ) (i : ℕ) → i < length (spelling bs) → get_or (spelling bs) i 0 ≡ 32 → ⊥
no-space [] zero h e = omega arith
no-space [] (suc i) h e = omega arith
no-space (b ∷ bs) i h e = no-space-hex (b ∷ bs) i h e

pub halved : (text : List ℕ) (r : Option (Bor (List ℕ) × Bor (List ℕ))) → IsSplitOnceResult 32 text r → Halves text (option_map (λ p. (p.0.now, p.1.now)) r)
halved text None at = λ venue show v s t. split_after 32 text (spelling venue) (spelling show) None at (lit< tt) t (no-space venue)
halved text (Some (front, back)) at =
    record {
      parts = (split_parts 32 text (Some (front, back)) at (lit< tt)).0;
      only = λ venue show t. split_after 32 text (spelling venue) (spelling show) (Some (front, back)) at (lit< tt) t (no-space venue);
    }
