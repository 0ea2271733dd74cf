-- The needs of a row, written one by one.
use Rattle.std.specs.Prelude.{count_by}
use Rattle.std.proofs.lemmas.List.Sums.{sum_by-cons, count_by-le-length}
use Rattle.std.proofs.Common.{zero, suc, refl, ◌*◌, ltb, ◌≡◌, ℕ, ◌+◌, ◌/◌, ◌%◌, ◌<◌, ◌≤◌, cond, eqb, List, [], ◌∷◌, ◌++◌, length, get_or, take, drop, sym, ap, ◌∙◌, append_assoc, append-nil, arith, length-append, length-take}
use Rattle.std.proofs.lemmas.List.{take_more, take-append-drop}
use Rattle.std.proofs.lemmas.Bool.{eq-eqb, ne_eqb, lt-ltb, cond-true, cond-false}
use Rattle.layout.specs.Layout.{need_fields}

abbrev pub one : ℕ → ℕ → List ℕ
one i a = cond (eqb a 0) [] (i ∷ (a / 256) ∷ (a % 256) ∷ [])

need-append : (k : ℕ) (xs ys : List ℕ) → need_fields k (xs ++ ys) ≡ need_fields k xs ++ need_fields (k + length xs) ys
need-append k [] ys = let e : k ≡ k + 0 = omega arith in ap (λ n. need_fields n ys) e
need-append k (a ∷ xs) ys =
    let e : k + 1 + length xs ≡ k + length (a ∷ xs) = omega arith in
    ap (λ l. one k a ++ l) (need-append (k + 1) xs ys ∙ ap (λ n. need_fields (k + 1) xs ++ need_fields n ys) e)
    ∙ sym (append_assoc (one k a) (need_fields (k + 1) xs) (need_fields (k + length (a ∷ xs)) ys))

module _ (row : List ℕ) (i : ℕ) (lt : i < length row) where
  abbrev a : ℕ
  a = get_or row i 0

  pub need-next : need_fields 0 (take (i + 1) row) ≡ need_fields 0 (take i row) ++ one i a
  need-next =
      let here : 0 + length (take i row) ≡ i = ap (λ n. 0 + n) (length-take i row) ∙ omega arith in
      ap (need_fields 0) (take_more row i 0 lt)
      ∙ need-append 0 (take i row) (a ∷ [])
      ∙ ap (λ n. need_fields 0 (take i row) ++ (one n a ++ [])) here
      ∙ ap (λ l. need_fields 0 (take i row) ++ l) (append-nil (one i a))

  pub need-none : a ≡ 0 → need_fields 0 (take (i + 1) row) ≡ need_fields 0 (take i row)
  need-none z = need-next ∙ ap (λ l. need_fields 0 (take i row) ++ l) (cond-true _ _ _ (eq-eqb a 0 z)) ∙ append-nil (need_fields 0 (take i row))

  pub need-some : 0 < a → need_fields 0 (take (i + 1) row) ≡ need_fields 0 (take i row) ++ (i ∷ (a / 256) ∷ (a % 256) ∷ [])
  need-some s = need-next ∙ ap (λ l. need_fields 0 (take i row) ++ l) (cond-false _ _ _ (ne_eqb a 0 (λ z. omega arith)))

  pub need-three : 0 < a → length (need_fields 0 (take (i + 1) row)) ≡ length (need_fields 0 (take i row)) + 3
  need-three s = ap length (need-some s) ∙ length-append (need_fields 0 (take i row)) (i ∷ (a / 256) ∷ (a % 256) ∷ [])

pub need-front : (row : List ℕ) (i : ℕ) → length (need_fields 0 (take i row)) ≤ length (need_fields 0 row)
need-front row i =
    let e = ap (λ l. length (need_fields 0 l)) (sym (take-append-drop i row)) ∙ ap length (need-append 0 (take i row) (drop i row)) ∙ length-append (need_fields 0 (take i row)) (need_fields (0 + length (take i row)) (drop i row)) in
    omega arith

counts-one : (n : ℕ) → cond {A = ℕ} (ltb 0 (suc n)) 1 0 ≡ 1
counts-one n = cond-true _ _ _ (lt-ltb 0 (suc n) (omega arith))

takes-three : (i n : ℕ) (row : List ℕ) → length (need_fields i (suc n ∷ row)) ≡ suc (suc (suc (length (need_fields (i + 1) row))))
takes-three i n row = ap (λ l. length (l ++ need_fields (i + 1) row)) (cond-false _ _ _ (ne_eqb (suc n) 0 (λ z. omega arith)))

pub needs-counted : (i : ℕ) (row : List ℕ) → 3 * count_by (λ n. ltb 0 n) row ≡ length (need_fields i row)
needs-counted i [] = refl
needs-counted i (zero ∷ row) = needs-counted (i + 1) row
needs-counted i (suc n ∷ row) = omega (arith, needs-counted (i + 1) row, counts-one n, takes-three i n row, sum_by-cons (λ n. cond (ltb 0 n) 1 0) (suc n) row)

pub needs-most : (row : List ℕ) → length row ≤ 16 → length (need_fields 0 row) ≤ 48
needs-most row le = omega (arith, needs-counted 0 row, count_by-le-length (λ n. ltb 0 n) row)
