-- One content put behind another.
use Rattle.std.proofs.Common.{◌/◌, ◌%◌, ◌≡◌, ℕ, ◌+◌, ◌<◌, ◌≤◌, List, [], ◌∷◌, ◌++◌, length, get_or, take, drop, sym, refl, ap, ◌∙◌, subst, append_assoc, arith, length-append, length-take, length-drop}
use Rattle.std.specs.List.{flat_map}
use Rattle.std.proofs.lemmas.List.{take_at, drop_at, drop-drop, take-append-drop, take_more}
use Rattle.std.proofs.lemmas.List.Folds.{length-flat_map-take}
use Rattle.layout.proofs.Wrote.{joined-push}
use Rattle.writer.specs.declared.cursor.Cursor.{Cursor}
use Rattle.writer.specs.Puts.{Puts, Fits, Appends}

puts_none : (at : ℕ) (s : List ℕ) → Puts [] at at s s
puts_none at s =
    let none : at + 0 ≡ at = omega arith in
    record { ends = sym none; is = sym (ap (λ n. take at s ++ drop n s) none ∙ take-append-drop at s) }

pub puts_then : {a b s t u : List ℕ} {at m n : ℕ} → at ≤ length s → Puts a at m s t → Puts b m n t u → Puts (a ++ b) at n s u
puts_then {a} {b} {s} {t} {u} {at} {m} {n} le p q =
    let front : length (take at s ++ a) ≡ m = length-append (take at s) a ∙ ap (λ k. k + length a) (length-take at s ∙ omega arith) ∙ sym p.ends in
    let told : t ≡ (take at s ++ a) ++ drop (at + length a) s = p.is ∙ sym (append_assoc (take at s) a (drop (at + length a) s)) in
    let size = length-append a b in
    let mid = p.ends in
    let end = q.ends in
    let took : take m t ≡ take at s ++ a = ap (take m) told ∙ take_at (take at s ++ a) (drop (at + length a) s) m front in
    let left : drop m t ≡ drop (at + length a) s = ap (drop m) told ∙ drop_at (take at s ++ a) (drop (at + length a) s) m front in
    let same : at + length a + length b ≡ at + length (a ++ b) = omega arith in
    let gone : drop (m + length b) t ≡ drop (at + length (a ++ b)) s
    = sym (drop-drop (length b) m t) ∙ ap (drop (length b)) left ∙ drop-drop (length b) (at + length a) s ∙ ap (λ k. drop k s) same in
    record {
      ends = omega arith;
      is = q.is
          ∙ (λ i. took i ++ (b ++ gone i))
          ∙ append_assoc (take at s) a (b ++ drop (at + length (a ++ b)) s)
          ∙ ap (λ l. take at s ++ l) (sym (append_assoc a b (drop (at + length (a ++ b)) s)));
    }

-- one element more of a table that is written field by field
pub joined-next : {X : Type 0} (f : X → List ℕ) (xs : List X) (i : ℕ) (d : X) → i < length xs → flat_map f (take i xs) ++ f (get_or xs i d) ≡ flat_map f (take (i + 1) xs)
joined-next f xs i d lt = sym (joined-push f (take i xs) (get_or xs i d)) ∙ ap (flat_map f) (sym (take_more xs i d lt))

pub appends-as : {a b : List ℕ} {x y : Cursor} → a ≡ b → Appends a x y → Appends b x y
appends-as {a} {b} {x} {y} e p = subst (λ l. Appends l x y) e p

-- the length of a space stays
pub puts_length : {content s t : List ℕ} {at m : ℕ} → at + length content ≤ length s → Puts content at m s t → length t ≡ length s
puts_length {content} {s} {t} {at} {m} le p =
    let parts = length-append (take at s) (content ++ drop (at + length content) s) in
    let more = length-append content (drop (at + length content) s) in
    omega (arith, ap length p.is, parts, more, length-take at s, length-drop (at + length content) s)

-- one content behind another, by a cursor
pub appends_none : {x : Cursor} (n : ℕ) → x.at + n ≤ length x.space.now → Appends [] x x
appends_none {x} n le = record { fits = omega (arith, le); same_reference = refl; puts = puts_none x.at x.space.now }

pub appends_then : {a b : List ℕ} {x y z : Cursor} → Appends a x y → Appends b y z → Appends (a ++ b) x z
appends_then {a} {b} {x} {y} {z} p q =
    record {
      fits = omega (arith, length-append a b, p.fits, q.fits, p.puts.ends, puts_length p.fits p.puts);
      same_reference = q.same_reference ∙ p.same_reference;
      puts = puts_then (omega (arith, p.fits)) p.puts q.puts;
    }

-- what is left of a content fits behind its front
pub fits_next : {a : List ℕ} (b : List ℕ) {x y : Cursor} (n : ℕ) → length a + length b ≤ n → x.at + n ≤ length x.space.now → Appends a x y → Fits b y
fits_next {a} b {x} {y} n le room p = omega (arith, p.puts.ends, puts_length p.fits p.puts)

pub part-fits : {X : Type 0} (f : X → List ℕ) (xs : List X) (i : ℕ) (x : X) → i < length xs → x ≡ get_or xs i x → length (flat_map f (take i xs)) + length (f x) ≤ length (flat_map f xs)
part-fits f xs i x lt is = subst (λ y. length (flat_map f (take i xs)) + length (f y) ≤ length (flat_map f xs)) (sym is) (length-flat_map-take f xs i x lt)

pub joined-item : {X : Type 0} (f : X → List ℕ) (xs : List X) (i : ℕ) (x : X) → i < length xs → x ≡ get_or xs i x → flat_map f (take i xs) ++ f x ≡ flat_map f (take (i + 1) xs)
joined-item f xs i x lt is = ap (λ y. flat_map f (take i xs) ++ f y) is ∙ joined-next f xs i x lt

pub appends-here : {a : List ℕ} {x y z : Cursor} → z ≡ y → Appends a x y → Appends a x z
appends-here {a} {x} e p = subst (λ c. Appends a x c) (sym e) p

-- a number in two bytes, high byte first
pub high_byte : (n : ℕ) (bytes : List ℕ) → n < 65536 → bytes ≡ (n / 256 % 256) ∷ (n % 256) ∷ [] → get_or bytes 0 0 ≡ n / 256
high_byte n bytes lt e = ap (λ l. get_or l 0 0) e ∙ omega arith

pub low_byte : (n : ℕ) (bytes : List ℕ) → bytes ≡ (n / 256 % 256) ∷ (n % 256) ∷ [] → get_or bytes 1 0 ≡ n % 256
low_byte n bytes e = ap (λ l. get_or l 1 0) e
