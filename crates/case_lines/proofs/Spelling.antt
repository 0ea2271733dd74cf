-- What a loop over a text in hexadecimal knows: the bytes so far, `xs`, and the rest of the text.
use Rattle.std.specs.Bool.{then_some}
use Rattle.std.specs.Option.{option_map}
use Rattle.std.proofs.lemmas.Bool.{eqb-true, eqb-false}
use Rattle.std.proofs.Common.{Bool, true, false, eqb, ◌≡◌, ℕ, ◌-◌, ◌/◌, ◌%◌, ◌<◌, ◌≤◌, List, [], ◌∷◌, ◌++◌, length, get_or, take, drop, None, sym, refl, ap, ◌∙◌, append-nil, arith}
use Rattle.std.proofs.lemmas.List.{take_rest}
use Rattle.case_lines.specs.Hex.{digit, hex, Bytes, Byte, Reads}

hex-push : (xs : List ℕ) (b : ℕ) (rest : List ℕ) → hex (xs ++ b ∷ []) ++ rest ≡ hex xs ++ (digit (b / 16) ∷ (digit (b % 16) ∷ rest))
hex-push [] b rest = refl
hex-push (x ∷ xs) b rest = ap (λ (t : List ℕ). digit (x / 16) ∷ (digit (x % 16) ∷ t)) (hex-push xs b rest)

-- one byte more
pub hex-more : (text xs more rest : List ℕ) (b : ℕ) → text ≡ hex xs ++ rest → 2 ≤ length rest → get_or rest 0 0 ≡ digit (b / 16) → get_or rest 1 0 ≡ digit (b % 16) → more ≡ xs ++ b ∷ [] → text ≡ hex more ++ take (length rest - 2) (drop 2 rest)
hex-more text xs more [] b e n h l pushed = absurd (omega arith)
hex-more text xs more (c ∷ []) b e n h l pushed = absurd (omega arith)
hex-more text xs more (c ∷ d ∷ rest) b e n h l pushed = let p = take_rest (c ∷ d ∷ rest) 2 in let q = hex-push xs b rest in cc

-- nothing more
hex-all : (text xs rest : List ℕ) → text ≡ hex xs ++ rest → length rest ≡ 0 → text ≡ hex xs
hex-all text xs [] e n = e ∙ append-nil (hex xs)
hex-all text xs (c ∷ rest) e n = absurd (omega arith)

-- where the whole text is of bytes, so is the rest
hex-rest : (xs rest bs : List ℕ) → Bytes bs → hex xs ++ rest ≡ hex bs → (cs : List ℕ) × Bytes cs × (rest ≡ hex cs)
hex-rest [] rest bs all e = (bs, all, e)
hex-rest (x ∷ xs) rest [] all e = let z : ◌≡◌ {A = ℕ} 0 1 = cc in absurd (omega arith)
hex-rest (x ∷ xs) rest (b ∷ bs) all e = hex-rest xs rest bs all.1 (cc)

odd : (rest cs : List ℕ) → rest ≡ hex cs → 1 ≤ length rest → length rest < 2 → ⊥
odd rest [] e low high = omega (arith, ap length e)
odd rest (c ∷ cs) e low high = omega (arith, ap length e)

-- one digit alone
hex-odd : (text xs rest : List ℕ) → text ≡ hex xs ++ rest → 1 ≤ length rest → length rest < 2 → Reads hex text None
hex-odd text xs rest e low high bs all f = let g = hex-rest xs rest bs all (sym e ∙ f) in odd rest g.0 g.2 low high

bad : (rest cs : List ℕ) → rest ≡ hex cs → 2 ≤ length rest → Byte (get_or rest 0 0) (get_or rest 1 0) None → Bytes cs → ⊥
bad rest [] e n none all = omega (arith, ap length e)
bad rest (c ∷ cs) e n none all = none c all.0 (ap (λ (l : List ℕ). get_or l 0 0) e) (ap (λ (l : List ℕ). get_or l 1 0) e)

-- what is no digit
pub hex-bad : (text xs rest : List ℕ) → text ≡ hex xs ++ rest → 2 ≤ length rest → Byte (get_or rest 0 0) (get_or rest 1 0) None → Reads hex text None
hex-bad text xs rest e n none bs all f = let g = hex-rest xs rest bs all (sym e ∙ f) in bad rest g.0 g.2 n none g.1

-- less than two digits are left
pub hex-end : {X : Type 0} (items : X → List ℕ) (made : X) (text rest : List ℕ) (t : Bool) → t ≡ eqb (length rest) 0 → text ≡ hex (items made) ++ rest → length rest < 2 → Reads hex text (option_map items (then_some t made))
hex-end items made text rest true e is few = hex-all text (items made) rest is (eqb-true (length rest) 0 (sym e))
hex-end items made text rest false e is few = let some = eqb-false (length rest) 0 (sym e) in hex-odd text (items made) rest is (omega arith) few
