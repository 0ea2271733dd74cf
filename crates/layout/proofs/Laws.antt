-- The laws of reading.
use Rattle.std.proofs.Common.{◌≡◌, true, sym, refl, ap, ◌∙◌, subst, arith}
use Rattle.std.specs.List.{AllByRecursion as All}
use Rattle.std.proofs.lemmas.Bool.{not-false}
use Rattle.fields.specs.Bytes.{tag, Point, spot_at}
use Rattle.fields.specs.Fields.{familiar}
use Rattle.faults.specs.Faults.{refusal_of}
use Rattle.layout.specs.Rules.{Moment, outset, inside, over, Context, rules_at}
use Rattle.layout.specs.Reading.{Applies, rules_here}
use Rattle.layout.specs.Laws.{OnlyFamiliar, OneFault}
use Rattle.layout.proofs.Lowest.{Unbroken, unbroken}
use Rattle.layout.proofs.Paths.{same-fault}

third : (m : Moment) (c : Context) (p : Point) → (m ≡ over → ⊥) → All Unbroken (rules_at m c p) → familiar (tag p.left) ≡ true
third outset c p o u = not-false (familiar (tag p.left)) u.1.1.0
third inside c p o u = not-false (familiar (tag p.left)) u.1.1.0
third over c p o u = absurd (o refl)

pub only-familiar : OnlyFamiliar
only-familiar s f = third s.context.moment s.context s.point f.0 (unbroken (rules_here s) f.1)

pub one-fault : OneFault
one-fault s f g a b =
    let e = same-fault a b in
    let low = a.lowest.1 (refusal_of g) (subst (λ t. Applies (refusal_of g) (rules_here t)) (sym e) b.lowest.0) in
    let high = b.lowest.1 (refusal_of f) (subst (λ t. Applies (refusal_of f) (rules_here t)) e a.lowest.0) in
    (omega arith, a.spot ∙ ap (λ t. spot_at t.point) e ∙ sym b.spot)
