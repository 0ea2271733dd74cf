-- A text that is cut at its first space.
use Rattle.std.proofs.Common.{◌≡◌, ℕ, zero, suc, ◌+◌, ◌<◌, List, [], ◌∷◌, ◌++◌, ◌-◌, length, get_or, take, drop, take_all, length-drop, sym, refl, ap, ◌∙◌, subst, arith}
use Rattle.std.proofs.lemmas.List.{drop-drop}
use Rattle.std.specs.List.{AllByRecursion as All}
use Rattle.lines.specs.Lines.{Number, Numbers, space}
use Rattle.lines.proofs.Digits.{no-space}

-- the first space is where the digits end
pub where-space : (a b : List ℕ) (i : ℕ) → All (λ x. x ≡ space → ⊥) a → get_or (a ++ space ∷ b) i 0 ≡ space → ((j : ℕ) → j < i → get_or (a ++ space ∷ b) j 0 ≡ space → ⊥) → i ≡ length a
where-space [] b zero none e first = refl
where-space [] b (suc i) none e first = absurd (first 0 (omega arith) refl)
where-space (x ∷ a) b zero none e first = absurd (none.0 e)
where-space (x ∷ a) b (suc i) none e first = ap suc (where-space a b i none.1 e (λ j lt. first (suc j) (omega arith)))

pub front : (a b : List ℕ) → take (length a) (a ++ space ∷ b) ≡ a
front [] b = refl
front (x ∷ a) b = ap (λ xs. x ∷ xs) (front a b)

pub behind-front : (a b : List ℕ) → drop (length a) (a ++ space ∷ b) ≡ space ∷ b
behind-front [] b = refl
behind-front (x ∷ a) b = behind-front a b

pub some-space : (a b : List ℕ) → All (λ x. x ≡ space → ⊥) (a ++ space ∷ b) → ⊥
some-space [] b h = h.0 refl
some-space (x ∷ a) b h = some-space a b h.1

-- a text is its front, the space, and what is behind it
pub cut : (text : List ℕ) (i : ℕ) → i < length text → get_or text i 0 ≡ space → text ≡ take i text ++ space ∷ drop 1 (drop i text)
cut [] i lt e = absurd (omega arith)
cut (x ∷ text) zero lt e = ap (λ y. y ∷ text) e
cut (x ∷ text) (suc i) lt e = ap (λ xs. x ∷ xs) (cut text i (omega arith) e)

-- two numbers are read off before and behind the first space
pub numbers-at : (text : List ℕ) (i k j : ℕ) → get_or text i 0 ≡ space → ((m : ℕ) → m < i → get_or text m 0 ≡ space → ⊥) → Numbers text k j → Number (take i text) k × Number (drop 1 (drop i text)) j
numbers-at text i k j here first h =
    let a = h.0 in
    let b = h.1 in
    let is = h.2 in
    let at : i ≡ length a = where-space a b i (no-space a k h.3) (subst (λ xs. get_or xs i 0 ≡ space) is here) (subst (λ xs. (m : ℕ) → m < i → get_or xs m 0 ≡ space → ⊥) is first) in
    let before : take i text ≡ a = ap (take i) is ∙ ap (λ n. take n (a ++ space ∷ b)) at ∙ front a b in
    let rest : drop 1 (drop i text) ≡ b = ap (drop 1) (ap (drop i) is ∙ ap (λ n. drop n (a ++ space ∷ b)) at ∙ behind-front a b) in
    (subst (λ xs. Number xs k) (sym before) h.3, subst (λ xs. Number xs j) (sym rest) h.4)

-- what stands behind the first space, as a range of the text
pub tail : (text : List ℕ) (i : ℕ) → take (length text - (i + 1)) (drop (i + 1) text) ≡ drop 1 (drop i text)
tail text i = take_all (length text - (i + 1)) (drop (i + 1) text) (omega (arith, length-drop (i + 1) text)) ∙ sym (drop-drop 1 i text)
