-- Ways through a file.
use Rattle.std.proofs.Common.{◌≡◌, ℕ, zero, suc, false, List, [], sym, refl, ap, ◌∙◌, subst}
use Rattle.std.specs.List.{AllByRecursion as All}
use Rattle.tables.specs.declared.resource.Resource.{Resource}
use Rattle.tables.specs.Model.{Pos}
use Rattle.faults.specs.declared.layers.FitFault.{FitFault}
use Rattle.faults.specs.Faults.{refusal_of}
use Rattle.layout.specs.Rules.{over, rules_at}
use Rattle.layout.specs.Reading.{Applies, Standing, rules_here, Fine, onward, Leads, Reaches, FirstBad, Ends}
use Rattle.layout.proofs.Lowest.{passes}

pub stay : (s : Standing) → Reaches s s
stay s = (0, refl)

pub lead : (n : ℕ) (s t u : Standing) → Leads n s t → Reaches t u → Reaches s u
lead zero s t u e r = subst (λ x. Reaches x u) (sym e) r
lead (suc n) s t u l r = let k = lead n (onward s) t u l.1 r in (suc k.0, (l.0, k.1))

pub follow : {s t u : Standing} → Reaches s t → Reaches t u → Reaches s u
follow {s} {t} {u} a b = lead a.0 s t u a.1 b

pub advance : {s t : Standing} → Reaches s t → Fine t → Reaches s (onward t)
advance {s} {t} r f = follow r (1, (f, refl))

pub bad-later : {s t : Standing} {f : FitFault} → Reaches s t → FirstBad t f → FirstBad s f
bad-later r b = record { at = b.at; reached = follow r b.reached; lowest = b.lowest; spot = b.spot }

-- what each good field keeps is kept all the way
pub keep : (P : Standing → Type 0) → ((s : Standing) → P s → Fine s → P (onward s)) → (n : ℕ) (s t : Standing) → Leads n s t → P s → P t
keep P step zero s t e p = subst P e p
keep P step (suc n) s t l p = keep P step n (onward s) t l.1 (step s p l.0)

-- reading comes to one stop only
same_stop : (m n : ℕ) (s t u : Standing) → Leads m s t → Leads n s u → (Fine t → ⊥) → (Fine u → ⊥) → t ≡ u
same_stop zero zero s t u a b x y = sym a ∙ b
same_stop zero (suc n) s t u a b x y = absurd (x (subst Fine a b.0))
same_stop (suc m) zero s t u a b x y = absurd (y (subst Fine b a.0))
same_stop (suc m) (suc n) s t u a b x y = same_stop m n (onward s) t u a.1 b.1 x y

stopped : {s : Standing} {f : FitFault} (b : FirstBad s f) → Fine b.at → ⊥
stopped {s} {f} b h = h.1 (refusal_of f) b.lowest.0

ended : {s : Standing} {rs : List Resource} {ns : List ℕ} {ps : List Pos} (e : Ends s rs ns ps) → Fine e.at → ⊥
ended e h = h.0 e.ended

pub one_end : {s : Standing} {rs rs' : List Resource} {ns ns' : List ℕ} {ps ps' : List Pos} → Ends s rs ns ps → Ends s rs' ns' ps' → (rs ≡ rs') × (ns ≡ ns') × (ps ≡ ps')
one_end {s} a b =
    let e = same_stop a.reached.0 b.reached.0 s a.at b.at a.reached.1 b.reached.1 (ended a) (ended b) in (
      sym a.resources ∙ ap (λ t. t.context.resources) e ∙ b.resources,
      sym a.counts ∙ ap (λ t. t.context.counts) e ∙ b.counts,
      sym a.positions ∙ ap (λ t. t.context.positions) e ∙ b.positions,
    )

-- at the end nothing is wrong
quiet : (t : Standing) → t.context.moment ≡ over → t.point.left ≡ [] → All (λ x. x.broken ≡ false) (rules_here t)
quiet t m e =
    subst (λ w. All (λ x. x.broken ≡ false) (rules_at w t.context t.point)) (sym m)
    (subst (λ l. All (λ x. x.broken ≡ false) (rules_at over t.context (record { file = t.point.file; place = t.point.place; left = l }))) (sym e) (refl, tt))

pub not-both : {s : Standing} {rs : List Resource} {ns : List ℕ} {ps : List Pos} {f : FitFault} → Ends s rs ns ps → FirstBad s f → ⊥
not-both {s} {rs} {ns} {ps} {f} a b =
    let e = same_stop a.reached.0 b.reached.0 s a.at b.at a.reached.1 b.reached.1 (ended a) (stopped b) in
    let q = quiet a.at a.ended a.none in
    passes (rules_here a.at) q (refusal_of f) (subst (λ t. Applies (refusal_of f) (rules_here t)) (sym e) b.lowest.0)

pub same-fault : {s : Standing} {f g : FitFault} (a : FirstBad s f) (b : FirstBad s g) → a.at ≡ b.at
same-fault {s} a b = same_stop a.reached.0 b.reached.0 s a.at b.at a.reached.1 b.reached.1 (stopped a) (stopped b)
