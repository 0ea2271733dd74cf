use Rattle.std.proofs.Common.{sym, ap, ◌∙◌, subst, take, arith, rules, take_all}
use Rattle.tables.specs.Plan.{plan}
use Rattle.rules.specs.Placing.{Formed, Fits}
use Rattle.home_order.specs.HomeOrder.{HasOrder}
use Rattle.home_order.proofs.HomeOrderRuleAdmissionRule.allows.Goals as goal
use Rattle.home_order.proofs.HomeOrderRuleAdmissionRule.allows.Goals.{in-Some, in-None}

pub all_go_home-allowed-requires : goal.all_go_home-allowed-requires
all_go_home-allowed-requires c =
    let roomy = c.allows.ensures.answer.0 (search rules) in
    let same = c.in-Some.ensures.cases.same ∙ ap (take 64) c.copy_from_slice.ensures.after ∙ take_all 64 c.args.placing.now (omega (arith, roomy.0.0)) in
    subst (Formed (plan c.args.stage.now.tables)) (sym same) roomy.0

pub returns-clause-answer : goal.returns-clause-answer
returns-clause-answer c =
    let t = plan c.args.stage.now.tables in
    let roomy = c.allows.ensures.answer.0 (search rules) in
    elim c.match-first_chunk_mut.branch [
      | in-Some w ↦
          let same = w.in-Some.ensures.cases.same ∙ ap (take 64) c.copy_from_slice.ensures.after ∙ take_all 64 c.args.placing.now (omega (arith, roomy.0.0)) in
          rw w.allowed-is
          (λ e. (roomy, subst (HasOrder (Fits t) t) same (w.all_go_home-allowed.ensures.0 e)), λ h. w.all_go_home-allowed.ensures.1 (subst (HasOrder (Fits t) t) (sym same) h.1))
      | in-None w ↦ absurd (omega (arith, w.in-None.ensures.cases, c.requires))
    ]
