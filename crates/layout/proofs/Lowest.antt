-- The lowest refusal of a list of rules.
use Rattle.std.proofs.Common.{◌≡◌, ℕ, ◌≤◌, Bool, true, false, cond, List, [], ◌∷◌, Some, None, Option, refl, subst, inl, inr, ⊎_elim, le_refl, arith}
use Rattle.std.specs.List.{AllByRecursion as All}
use Rattle.std.proofs.ByRecursion.{All-weaker}
use Rattle.std.proofs.lemmas.Bool.{cases_Bool, both_ways}
use Rattle.refusals.specs.declared.Refusal.{Refusal}
use Rattle.refusals.specs.Refusals.{number_of}
use Rattle.layout.specs.Rules.{Rule}
use Rattle.layout.specs.Reading.{Applies, Lowest}

abbrev pub Unbroken : Rule → Type 0
Unbroken x = x.broken ≡ false

-- no number of the list is below n
abbrev pub From : ℕ → List Rule → Type 0
From n xs = All (λ x. n ≤ number_of x.refusal) xs

from-applies : (n : ℕ) (xs : List Rule) → From n xs → (q : Refusal) → Applies q xs → n ≤ number_of q
from-applies n [] f q a = absurd a
from-applies n (x ∷ xs) f q (inl a) = subst (λ r. n ≤ number_of r) a.0 f.0
from-applies n (x ∷ xs) f q (inr a) = from-applies n xs f.1 q a

pub lowest-here : (x : Rule) (xs : List Rule) → From (number_of x.refusal) (x ∷ xs) → x.broken ≡ true → Lowest x.refusal (x ∷ xs)
lowest-here x xs f b = (inl (refl, b), from-applies (number_of x.refusal) (x ∷ xs) f)

pub lowest-later : (r : Refusal) (x : Rule) (xs : List Rule) → Unbroken x → Lowest r xs → Lowest r (x ∷ xs)
lowest-later r x xs b l = (inr l.0, λ q a. ⊎_elim (λ h. absurd (both_ways x.broken b h.1)) (λ h. l.1 q h) a)

pub unbroken : (xs : List Rule) → ((r : Refusal) → Applies r xs → ⊥) → All Unbroken xs
unbroken [] p = tt
unbroken (x ∷ xs) p =
    (⊎_elim (λ t. absurd (p x.refusal (inl (refl, t)))) (λ f. f) (cases_Bool x.broken), unbroken xs (λ r a. p r (inr a)))

pub passes : (xs : List Rule) → All Unbroken xs → (r : Refusal) → Applies r xs → ⊥
passes [] u r a = a
passes (x ∷ xs) u r (inl a) = both_ways x.broken u.0 a.1
passes (x ∷ xs) u r (inr a) = passes xs u.1 r a

-- the first rule of the list that is broken: the lowest, where the numbers rise
abbrev pub first_of : List Rule → Option Refusal
first_of [] = None
first_of (x ∷ xs) = cond x.broken (Some x.refusal) (first_of xs)

abbrev pub Rising : ℕ → List Rule → Type 0
Rising n [] = Unit {0}
Rising n (x ∷ xs) = (n ≤ number_of x.refusal) × Rising (number_of x.refusal) xs

rising-from : (n : ℕ) (xs : List Rule) → Rising n xs → From n xs
rising-from n [] u = tt
rising-from n (x ∷ xs) u =
    let up = u.0 in
    (up, All-weaker _ _ (λ y (h : number_of x.refusal ≤ number_of y.refusal). omega arith) xs (rising-from (number_of x.refusal) xs u.1))

pub first-lowest : (n : ℕ) (xs : List Rule) → Rising n xs → (r : Refusal) → first_of xs ≡ Some r → Lowest r xs
first-lowest n [] u r e = let z : ◌≡◌ {A = ℕ} 0 1 = cc in absurd (omega arith)
first-lowest n (x ∷ xs) u r e = at x.broken refl e (first-lowest (number_of x.refusal) xs u.1 r) where
  at : (b : Bool) → x.broken ≡ b → cond b (Some x.refusal) (first_of xs) ≡ Some r → (first_of xs ≡ Some r → Lowest r xs) → Lowest r (x ∷ xs)
  at true h d go = let is : x.refusal ≡ r = cc in subst (λ q. Lowest q (x ∷ xs)) is (lowest-here x xs (le_refl (number_of x.refusal), rising-from (number_of x.refusal) xs u.1) h)
  at false h d go = lowest-later r x xs h (go d)

pub first-none : (xs : List Rule) → first_of xs ≡ None → All Unbroken xs
first-none [] e = tt
first-none (x ∷ xs) e = at x.broken refl e (first-none xs) where
  at : (b : Bool) → x.broken ≡ b → ◌≡◌ {A = Option Refusal} (cond b (Some x.refusal) (first_of xs)) None → (first_of xs ≡ None → All Unbroken xs) → All Unbroken (x ∷ xs)
  at true h d go = let z : ◌≡◌ {A = ℕ} 0 1 = cc in absurd (omega arith)
  at false h d go = (h, go d)
