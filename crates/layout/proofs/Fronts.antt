-- A field at the front of what is left.
use Rattle.std.proofs.Common.{◌≡◌, ℕ, ◌+◌, ◌/◌, ◌%◌, ◌<◌, false, List, [], ◌∷◌, ◌++◌, length, take, drop, sym, refl, ap, ◌∙◌, arith, length-append, length-take}
use Rattle.std.specs.List.{AllByRecursion as All}
use Rattle.std.proofs.lemmas.List.{take_at, drop_at, drop-drop, take-append-drop}
use Rattle.std.proofs.ByRecursion.{All-take, All-drop}
use Rattle.std.proofs.lemmas.Bool.{le-ltb, ltb-false}
use Rattle.std.proofs.lemmas.Nat.{div-add-mod', div-mul-add, mod-mul-add}
use Rattle.fields.specs.Bytes.{word, tag, body_size, body, field_size, head_cut, body_cut}
use Rattle.layout.specs.Layout.{field}

abbrev pub Byte : ℕ → Type 0
Byte b = b < 256

-- a field that is written stands there whole
module _ (t : ℕ) (b rest : List ℕ) where
  size_back : body_size (field t b ++ rest) ≡ length b
  size_back = div-add-mod' (length b) 256

  pub body_back : body (field t b ++ rest) ≡ b
  body_back = ap (λ n. take n (b ++ rest)) size_back ∙ take_at b rest (length b) refl

  pub rest_back : drop (field_size (field t b ++ rest)) (field t b ++ rest) ≡ rest
  rest_back =
      sym (drop-drop (body_size (field t b ++ rest)) 3 (field t b ++ rest))
      ∙ ap (λ n. drop n (b ++ rest)) size_back
      ∙ drop_at b rest (length b) refl

  pub head-there : head_cut (field t b ++ rest) ≡ false
  head-there = le-ltb _ _ (omega arith)

  pub body-there : body_cut (field t b ++ rest) ≡ false
  body-there = le-ltb _ _ (omega (arith, size_back, length-append b rest))

-- a field that stands there whole is as it would be written
pub front-field : (left : List ℕ) → All Byte left → head_cut left ≡ false → body_cut left ≡ false → left ≡ field (tag left) (body left) ++ drop (field_size left) left
front-field [] a h k = let e = ltb-false 0 3 h in absurd (omega arith)
front-field (t ∷ []) a h k = let e = ltb-false 1 3 h in absurd (omega arith)
front-field (t ∷ hi ∷ []) a h k = let e = ltb-false 2 3 h in absurd (omega arith)
front-field (t ∷ hi ∷ lo ∷ rest) a h k =
    let n = word hi lo in
    let low = a.1.1.0 in
    let some = ltb-false _ _ k in
    let long : length (take n rest) ≡ n = length-take n rest ∙ omega arith in
    let up : length (take n rest) / 256 ≡ hi = ap (λ m. m / 256) long ∙ div-mul-add hi 256 lo low in
    let down : length (take n rest) % 256 ≡ lo = ap (λ m. m % 256) long ∙ mod-mul-add hi 256 lo low in
    let after : drop (3 + n) (t ∷ hi ∷ lo ∷ rest) ≡ drop n rest = sym (drop-drop n 3 (t ∷ hi ∷ lo ∷ rest)) in
    ap (λ l. t ∷ hi ∷ lo ∷ l) (sym (take-append-drop n rest))
    ∙ (λ i. t ∷ sym up i ∷ sym down i ∷ (take n rest ++ sym after i))

pub body_bytes : (left : List ℕ) → All Byte left → All Byte (body left)
body_bytes left a = All-take Byte _ _ (All-drop Byte 3 left a)
