use Rattle.std.proofs.Common.{◌≡◌, ℕ, ◌<◌, sym, ap, ◌∙◌, arith, ⊎_elim, length-set, get_or-set_other}
use Rattle.std.proofs.lemmas.Bool.{cases_eq}
use Rattle.std.proofs.lemmas.Grind.{get_or-set_at}
use Rattle.figures.specs.Claims.{made}
use Rattle.figures.proofs.stage.no_figures.Goals as goal

pub loop-p-preserved : goal.loop-p-preserved
loop-p-preserved c =
    let row = c.loop-p.claim-items in
    let p = c.loop-p.p in
    let long = c.loop-p.invariant.0 in (
      length-set row p (made 0 p) ∙ long,
      λ q lt.
          ⊎_elim
          (λ (e : q ≡ p). get_or-set_at row p q (made 0 p) (made 0 0) e (omega arith) ∙ ap (λ n. made 0 n) (sym e))
          (λ ne. get_or-set_other row p q (made 0 p) (made 0 0) ne ∙ c.loop-p.invariant.1 q (omega (arith, ne)))
          (cases_eq q p),
    )
