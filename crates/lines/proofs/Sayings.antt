-- A line that begins with one word says nothing that begins with another.
use Rattle.std.proofs.Common.{◌≡◌, ℕ, List, ◌++◌, get_or, drop, codes, sym, ap, ◌∙◌, subst, arith}
use Rattle.history.specs.declared.calls.Call.{Call}
use Rattle.history.specs.declared.calls.Call.TheVariants.{Start, Move, Leave, Clear}
use Rattle.lines.specs.Lines.{Numbers, Says}

-- two texts of one line begin alike, and go on alike
alike : (line a b : List ℕ) → line ≡ a → line ≡ b → get_or a 0 0 ≡ get_or b 0 0
alike line a b e f = ap (λ xs. get_or xs 0 0) (sym e ∙ f)

rest : (n : ℕ) (line a b : List ℕ) → line ≡ a → line ≡ b → drop n b ≡ drop n a
rest n line a b e f = ap (drop n) (sym f ∙ e)

module _ (line text : List ℕ) where
  pub only-start : line ≡ codes "start " ++ text → ((k j : ℕ) → Numbers text k j → ⊥) → (c : Call) → Says line c → ⊥
  only-start e none (Start k j) s = none k j (subst (λ x. Numbers x k j) (rest 6 line _ _ e s.1) s.2)
  only-start e none (Move k p) s = omega (arith, alike line _ _ e s.1)
  only-start e none (Leave k) s = omega (arith, alike line _ _ e s.1)
  only-start e none Clear s = omega (arith, alike line _ _ e s)

  pub only-move : line ≡ codes "move " ++ text → ((k p : ℕ) → Numbers text k p → ⊥) → (c : Call) → Says line c → ⊥
  only-move e none (Start k j) s = omega (arith, alike line _ _ e s.1)
  only-move e none (Move k p) s = none k p (subst (λ x. Numbers x k p) (rest 5 line _ _ e s.1) s.2)
  only-move e none (Leave k) s = omega (arith, alike line _ _ e s.1)
  only-move e none Clear s = omega (arith, alike line _ _ e s)
