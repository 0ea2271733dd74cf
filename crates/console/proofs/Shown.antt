-- What the show has for a call.
use Rattle.std.proofs.Common.{◌≡◌, ℕ, ◌<◌, ◌≤◌, eqb, List, [], ◌∷◌, length, vec_items, Decides, get_or, Some, None, Option, sym, refl, ap, ◌∙◌, subst, arith, rules}
use lib.ListN.{length-map}
use Rattle.std.specs.Borrow.{Bor}
use Rattle.std.specs.List.{ContainsAt as Has, AllWithin, HoldsAt}
use Rattle.std.specs.Option.{MatchOption}
use Rattle.std.specs.Slice.{IsItemAt}
use Rattle.std.proofs.lemmas.List.{get_or-map}
use Rattle.std.proofs.lemmas.Bool.{eqb-true, eq-eqb}
use Rattle.tables.specs.declared.tables.Tables.{Tables}
use Rattle.tables.specs.declared.route.Route.{Route}
use Rattle.tables.specs.Plan.{Plan, plan, routes, count, first, next}
use Rattle.figures.specs.Sound.{Sound}

pub route-count : (t : Tables) → length (vec_items t.show.routes) ≡ routes (plan t)
route-count t = sym (length-map (vec_items t.show.routes) (λ r. r.first)) ∙ ap length t.show.first

-- a next position is a position
pub next-within : (t : Plan) → Sound t → (p q : ℕ) → Has (next t p) q → q < count t
next-within t sound p q has = subst (λ x. x < count t) (has.2 0) (sound.ahead p has.0 has.1).1

-- the first named that is the position asked for, if one is
pub found : (named : List ℕ) (position : ℕ) (got : Option (Bor ℕ)) (o : Option ℕ) → MatchOption got (AllWithin (λ y. y ≡ position → ⊥) named 0 (length named)) (λ x. (x.now ≡ position) × (i : ℕ) × (i < length named) × HoldsAt (λ y. y ≡ x.now) named i × AllWithin (λ y. y ≡ position → ⊥) named 0 i) → MatchOption got (o ≡ None) (λ x. o ≡ Some x.now) → MatchOption o (Has named position → ⊥) (λ q. Has named position × (q ≡ position))
found named position None o h e = rw e (λ has. h has.0 0 (omega arith) has.1 (has.2 0))
found named position (Some x) o h e = rw e ((h.1, h.2, λ d. h.3 d ∙ h.0), h.0)

pub found-within : (t : Plan) → Sound t → (p position : ℕ) (o : Option ℕ) → MatchOption o (Has (next t p) position → ⊥) (λ q. Has (next t p) position × (q ≡ position)) → MatchOption o (Has (next t p) position → ⊥) (λ q. Has (next t p) position × (q ≡ position) × (q < count t))
found-within t sound p position None h = h
found-within t sound p position (Some q) h = (h.0, h.1, omega (arith, h.1, next-within t sound p position h.0))

-- the first position of a route, if there is one
pub first-there : (t : Tables) → Sound (plan t) → (i : ℕ) (got : Option (Bor Route)) (o : Option ℕ) → IsItemAt (vec_items t.show.routes) i got → MatchOption got (o ≡ None) (λ x. o ≡ Some x.now.first) → MatchOption o (routes (plan t) ≤ i) (λ p. (i < routes (plan t)) × (p ≡ first (plan t) i) × (p < count (plan t)))
first-there t sound i None o item e = let past : length (vec_items t.show.routes) ≤ i = search rules in rw e (omega (arith, route-count t))
first-there t sound i (Some x) o item e =
    let rs = vec_items t.show.routes in
    let at : i < length rs = search rules in
    let is : get_or rs i x.now ≡ x.now = search rules in
    let known : i < routes (plan t) = omega (arith, route-count t) in
    let same : x.now.first ≡ first (plan t) i = sym (ap (λ (r : Route). r.first) is) ∙ sym (get_or-map (λ (r : Route). r.first) rs i x.now 0 at) ∙ ap (λ ns. get_or ns i 0) t.show.first in
    rw e (known, same, omega (arith, same, sound.begins i known))

none : (xs : List ℕ) → length xs ≡ 0 → xs ≡ []
none [] e = refl
none (x ∷ xs) e = absurd (omega arith)

-- a list is empty exactly if its length is 0
pub empty-decides : (xs : List ℕ) → Decides (eqb (length xs) 0) (xs ≡ [])
empty-decides xs = (λ e. none xs (eqb-true (length xs) 0 e), λ e. eq-eqb (length xs) 0 (ap length e))
