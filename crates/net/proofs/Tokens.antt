-- One piece moved: what its transition takes and gives, place by place.
use Rattle.std.proofs.Common.{◌≡◌, ℕ, zero, suc, ◌+◌, ◌-◌, ◌<◌, ◌≤◌, List, length, get_or, set, replicate, sum_by, sym, refl, ◌∙◌, arith}
use Rattle.std.proofs.lemmas.List.Sums.{sum_by-cons, sum_by-set, get_or-le-sum_by}
use Rattle.std.proofs.lemmas.Bool.{ne_eqb}
use Rattle.tables.specs.Plan.{Plan, count, capacity, need}
use Rattle.figures.specs.Sound.{Sound}
use Rattle.figures.specs.Claims.{claim}
use Rattle.figures.specs.Placing.{off, if_on}
use Rattle.rules.specs.Placing.{total, held, nobody}
use Rattle.rules.specs.Ordered.{Ordered}
use Rattle.rules.specs.Placings.{total-nobody, total-set, formed-set}
use Rattle.rules.specs.Orders.{ordered-fits}
use Rattle.net.specs.Net.{Place, Position, Idle, Resource, Control, IsPlace, Marking, initial, one, Enabled, fire, counts}

-- what is free of c, with b in the place of a
free : (c total after a b : ℕ) → after + a ≡ total + b → total ≤ c → after ≤ c → c - after ≡ (c - total - (b - a)) + (a - b)
free c total after a b e low high = omega arith

sum-none : (f : ℕ → ℕ) (n x : ℕ) → f x ≡ 0 → sum_by f (replicate n x) ≡ 0
sum-none f zero x e = refl
sum-none f (suc n) x e = sum_by-cons f x (replicate n x) ∙ omega (arith, sum-none f n x e)

-- the marking has, at every place, the count of the placing
abbrev pub Agrees : Plan → Marking → List ℕ → Type 0
Agrees t m w = (place : Place) → IsPlace t place → counts t w place ≡ m place

module _ (t : Plan) (sound : Sound t) where
  pub agrees-initial : Agrees t (initial t) nobody
  agrees-initial (Position p) h =
      sum-none (λ x. one x p) 64 off (rw (ne_eqb off p (λ e. omega (arith, e, sound.few))))
  agrees-initial Idle h = refl
  agrees-initial (Resource r) h = omega (arith, total-nobody (λ p. need t p r))
  agrees-initial (Control r) h = omega (arith, total-nobody (claim t r))

  module _ (w : List ℕ) (k q : ℕ) (ordered : Ordered t w) (lt : k < 64) where
    abbrev p : ℕ
    p = get_or w k off

    known : k < length w
    known = omega (arith, ordered.0.0)

    -- a token goes from p to q
    token : (x : ℕ) → sum_by (λ y. one y x) (set w k q) ≡ (sum_by (λ y. one y x) w - one p x) + one q x
    token x = omega (arith, sum_by-set (λ y. one y x) w k q off known, get_or-le-sum_by (λ y. one y x) w k off known)

    pub agrees-fire : (m : Marking) → Ordered t (set w k q) → Agrees t m w → Agrees t (fire t p q m) (set w k q)
    agrees-fire m after agrees (Position x) h = rw (sym (agrees (Position x) h)) (token x)
    agrees-fire m after agrees Idle h = rw (sym (agrees Idle h)) (token off)
    agrees-fire m after agrees (Resource r) h = rw (sym (agrees (Resource r) h)) (free (capacity t r) (held t r w) (held t r (set w k q)) (if_on (λ x. need t x r) p) (if_on (λ x. need t x r) q) (total-set (λ x. need t x r) w k q known) (ordered-fits t sound w ordered r h) (ordered-fits t sound (set w k q) after r h))
    agrees-fire m after agrees (Control r) h = rw (sym (agrees (Control r) h)) (free (capacity t r) (total (claim t r) w) (total (claim t r) (set w k q)) (if_on (claim t r) p) (if_on (claim t r) q) (total-set (claim t r) w k q known) (ordered.1 r h) (after.1 r h))

    -- the transition is enabled exactly if the ordered rule allows the placing after it
    pub allowed-enabled : (m : Marking) → Ordered t (set w k q) → Agrees t m w → Enabled t m p q
    allowed-enabled m after agrees (Position x) h = rw (sym (agrees (Position x) h)) (get_or-le-sum_by (λ y. one y x) w k off known)
    allowed-enabled m after agrees Idle h = rw (sym (agrees Idle h)) (get_or-le-sum_by (λ y. one y off) w k off known)
    allowed-enabled m after agrees (Resource r) h = rw (sym (agrees (Resource r) h)) (omega (arith, total-set (λ x. need t x r) w k q known, ordered-fits t sound (set w k q) after r h, ordered-fits t sound w ordered r h))
    allowed-enabled m after agrees (Control r) h = rw (sym (agrees (Control r) h)) (omega (arith, total-set (claim t r) w k q known, after.1 r h, ordered.1 r h))

    pub enabled-allowed : (m : Marking) → ((q ≡ off → ⊥) → q < count t) → Agrees t m w → Enabled t m p q → Ordered t (set w k q)
    enabled-allowed m at agrees enabled = (
      formed-set t w k q lt at ordered.0,
      λ r h. omega (arith, enabled (Control r) h, agrees (Control r) h, total-set (claim t r) w k q known, ordered.1 r h),
    )
