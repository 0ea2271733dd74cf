-- Texts that are put together piece by piece.
use Rattle.std.proofs.Common.{◌≡◌, ◌⊎◌, ℕ, ◌/◌, ◌%◌, ◌<◌, Bool, true, false, cond, List, [], ◌∷◌, ◌++◌, map, length, is_ok, IfOk, Ok, Err, string_bytes, Result, String, sym, refl, ap, ◌∙◌, append_assoc, append-nil, arith}
use Rattle.std.proofs.lemmas.Bool.{cond-false}
use Rattle.std.specs.List.{flat_map, join_by, zip}
use Rattle.std.specs.Fmt.{digit_glyph}
use Rattle.std.specs.declared.alloc.Global.{Global}
use Rattle.texts.specs.Texts.{plain, shown, listing, told}

pub made-if : {X Y : Type 0} (r : Result X Y) (P : Type 0) → (is_ok r ≡ true → P) → IfOk r (λ _. P)
made-if (Ok x) P f = f refl
made-if (Err y) P f = tt

pub at_ok : {X Y : Type 0} (r : Result X Y) (new more old : List ℕ) → is_ok r ≡ true → new ≡ cond (is_ok r) more old → new ≡ more
at_ok (Ok x) new more old ok e = e
at_ok (Err y) new more old ok e = let z : ◌≡◌ {A = ℕ} 0 1 = cc in absurd (omega arith)

-- a byte in hexadecimal, by its parts
pub escape-pushed : (b h l : ℕ) (text one two three high low : List ℕ) → plain b ≡ false → one ≡ text ++ (92 ∷ (120 ∷ [])) → two ≡ one ++ high → three ≡ two ++ low → high ≡ h ∷ [] → low ≡ l ∷ [] → h ≡ digit_glyph false (b / 16) → l ≡ digit_glyph false (b % 16) → three ≡ text ++ shown b
escape-pushed b h l text one two three high low p e1 e2 e3 eh el ih il =
    let s : shown b ≡ 92 ∷ (120 ∷ (digit_glyph false (b / 16) ∷ (digit_glyph false (b % 16) ∷ []))) =
    ap (λ (t : Bool). cond t (b ∷ []) (92 ∷ (120 ∷ (digit_glyph false (b / 16) ∷ (digit_glyph false (b % 16) ∷ []))))) p in
    let a = append_assoc (text ++ (92 ∷ (120 ∷ []))) (h ∷ []) (l ∷ []) in
    let d = append_assoc text (92 ∷ (120 ∷ [])) (h ∷ (l ∷ [])) in
    cc

joined-map : {X : Type 0} (f : X → List ℕ) (sep : List ℕ) (xs : List X) → flat_map (λ y. sep ++ f y) xs ≡ flat_map (λ y. sep ++ y) (map f xs)
joined-map f sep [] = refl
joined-map f sep (x ∷ xs) = ap (λ (l : List ℕ). (sep ++ f x) ++ l) (joined-map f sep xs)

-- a list of texts, where there are some and where there are none
pub listing-some : {X : Type 0} (f : X → List ℕ) (none sep : List ℕ) (xs : List X) → 0 < length xs → join_by f sep xs ≡ listing none sep (map f xs)
listing-some f none sep [] h = absurd (omega arith)
listing-some f none sep (x ∷ xs) h = ap (λ (l : List ℕ). f x ++ l) (joined-map f sep xs)

-- one text for each name, but for those of nothing
pub told-all : {X : Type 0} (amount : X → ℕ) (text : String Global → X → List ℕ) (texts : List (String Global)) (pairs : List (String Global × X)) (all : List (List ℕ)) → map string_bytes texts ++ told amount text pairs ≡ all → pairs ≡ [] → map string_bytes texts ≡ all
told-all amount text texts pairs all e end = let whole = append-nil (map string_bytes texts) in cc

-- no pairs are left where either list is at its end
pub no-pairs : {A B : Type 0} (xs : List A) (ys : List B) → (length xs ≡ 0) ⊎ (length ys ≡ 0) → zip xs ys ≡ []
no-pairs [] ys h = refl
no-pairs (x ∷ xs) [] h = refl
no-pairs (x ∷ xs) (y ∷ ys) h = absurd (omega arith)
