-- The body of each kind of field, against what is read of it.
use Rattle.std.proofs.Common.{◌≡◌, ℕ, ◌/◌, ◌%◌, ◌<◌, ◌≤◌, true, false, not, ◌&&◌, eqb, List, [], ◌∷◌, length, get_or, refl, arith}
use Rattle.std.specs.List.{AllByRecursion as All}
use Rattle.std.proofs.lemmas.Bool.{eqb-true, eqb-false, not-false, and_parts, and_from, le-leb, lt-ltb, eq-eqb}
use Rattle.std.proofs.lemmas.Nat.{div-mul-add, mod-mul-add}
use Rattle.fields.specs.Bytes.{word}
use Rattle.fields.specs.Fields.{front, byte_of_kind}
use Rattle.fields.specs.declared.spot.File.{File}
use Rattle.tables.specs.Valid.{every, byte, valid_resource}
use Rattle.layout.specs.Rules.{resource_at}
use Rattle.layout.proofs.Fronts.{Byte}

-- a length that is not wrong
pub exact : (b : List ℕ) (n : ℕ) → not (eqb (length b) n) ≡ false → length b ≡ n
exact b n l = eqb-true (length b) n (not-false (eqb (length b) n) l)

pub header-body : (f : File) (b : List ℕ) → not (eqb (length b) 2) ≡ false → not (eqb (get_or b 0 0) (byte_of_kind f) && eqb (get_or b 1 0) 1) ≡ false → b ≡ byte_of_kind f ∷ 1 ∷ []
header-body f [] l v = let e = exact [] 2 l in absurd (omega arith)
header-body f (k ∷ []) l v = let e = exact (k ∷ []) 2 l in absurd (omega arith)
header-body f (k ∷ w ∷ []) l v =
    let p = and_parts _ _ (not-false _ v) in
    let kind = eqb-true _ _ p.0 in
    let version = eqb-true _ _ p.1 in
    λ i. kind i ∷ version i ∷ []
header-body f (k ∷ w ∷ x ∷ b) l v = let e = exact (k ∷ w ∷ x ∷ b) 2 l in absurd (omega arith)

pub end_body : (b : List ℕ) → not (eqb (length b) 0) ≡ false → b ≡ []
end_body [] l = refl
end_body (x ∷ b) l = let e = exact (x ∷ b) 0 l in absurd (omega arith)

-- a number of two bytes, and the bytes again
pub halves : (h l : ℕ) → l < 256 → (rest : List ℕ) → (word h l / 256) ∷ (word h l % 256) ∷ rest ≡ h ∷ l ∷ rest
halves h l s rest = λ i. div-mul-add h 256 l s i ∷ mod-mul-add h 256 l s i ∷ rest

pub route-body : (b : List ℕ) → All Byte b → not (eqb (length b) 2) ≡ false → (front b / 256) ∷ (front b % 256) ∷ [] ≡ b
route-body [] a l = let e = exact [] 2 l in absurd (omega arith)
route-body (h ∷ []) a l = let e = exact (h ∷ []) 2 l in absurd (omega arith)
route-body (h ∷ w ∷ []) a l = halves h w a.1.0 []
route-body (h ∷ w ∷ x ∷ b) a l = let e = exact (h ∷ w ∷ x ∷ b) 2 l in absurd (omega arith)

pub all-bytes : (bs : List ℕ) → All Byte bs → every byte bs ≡ true
all-bytes [] a = refl
all-bytes (b ∷ bs) a = and_from _ _ (lt-ltb _ _ a.0) (all-bytes bs a.1)

pub resource-body : (b : List ℕ) → All Byte b → not (eqb (length b) 11) ≡ false → eqb (front b) 0 ≡ false → (((resource_at b).capacity / 256) ∷ ((resource_at b).capacity % 256) ∷ (resource_at b).order ∷ (resource_at b).name ≡ b) × (valid_resource (resource_at b) ≡ true)
resource-body [] a l z = let e = exact [] 11 l in absurd (omega arith)
resource-body (h ∷ []) a l z = let e = exact (h ∷ []) 11 l in absurd (omega arith)
resource-body (h ∷ w ∷ []) a l z = let e = exact (h ∷ w ∷ []) 11 l in absurd (omega arith)
resource-body (h ∷ w ∷ o ∷ name) a l z =
    let size = exact (h ∷ w ∷ o ∷ name) 11 l in
    let z' = eqb-false (word h w) 0 z in
    let some : 1 ≤ word h w = omega arith in
    let high = a.0 in
    let low = a.1.0 in (
      halves h w low (o ∷ name),
      and_from _ _ (le-leb _ _ some) (and_from _ _ (lt-ltb _ _ (omega arith)) (and_from _ _ (lt-ltb _ _ a.1.1.0) (and_from _ _ (eq-eqb _ _ (omega arith)) (all-bytes name a.1.1.1)))),
    )
