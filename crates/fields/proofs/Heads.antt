-- A list by the parts that a pattern as [a, b, c, rest @ ..] gives, under any function of it.
use Rattle.std.proofs.Common.{◌≡◌, ℕ, ◌-◌, ◌≤◌, List, [], ◌∷◌, length, get_or, take, drop, sym, refl, ap, arith}
use Rattle.std.proofs.lemmas.List.{take_rest}

pub at-three : {Y : Type 0} (F : List ℕ → Y) (xs : List ℕ) → 3 ≤ length xs → F xs ≡ F (get_or xs 0 0 ∷ get_or xs 1 0 ∷ get_or xs 2 0 ∷ take (length xs - 3) (drop 3 xs))
at-three F [] p = absurd (omega arith)
at-three F (a ∷ []) p = absurd (omega arith)
at-three F (a ∷ b ∷ []) p = absurd (omega arith)
at-three F (a ∷ b ∷ c ∷ rest) p = ap (λ l. F (a ∷ b ∷ c ∷ l)) (sym (take_rest (a ∷ b ∷ c ∷ rest) 3))

pub at_one : {Y : Type 0} (F : List ℕ → Y) (xs : List ℕ) → 1 ≤ length xs → F xs ≡ F (get_or xs 0 0 ∷ take (length xs - 1) (drop 1 xs))
at_one F [] p = absurd (omega arith)
at_one F (a ∷ rest) p = ap (λ l. F (a ∷ l)) (sym (take_rest (a ∷ rest) 1))

pub at_none : {Y : Type 0} (F : List ℕ → Y) (xs : List ℕ) → length xs ≤ 0 → F xs ≡ F []
at_none F [] p = refl
at_none F (a ∷ rest) p = absurd (omega arith)
