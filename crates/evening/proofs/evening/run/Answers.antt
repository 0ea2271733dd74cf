use Rattle.std.proofs.Common.{◌≡◌, ℕ, ◌+◌, ◌<◌, List, Option, length, get_or, set, refl, ap, ◌∙◌, subst, arith, Ok}
use Rattle.tables.specs.Plan.{Plan, plan}
use Rattle.figures.specs.declared.stage.Stage.{Stage}
use Rattle.figures.specs.Placing.{distance}
use Rattle.history.specs.declared.calls.Call.TheVariants.{Start}
use Rattle.history.specs.declared.calls.Granted.TheVariants.{Moved}
use Rattle.rules.specs.Placing.{on_count}
use Rattle.history.specs.History.{Promised}
use Rattle.evening.specs.declared.step.Step.{Step}
use Rattle.evening.proofs.Runs.{Sofar, sofar-none, sofar-more, sofar-all}
use Rattle.evening.proofs.evening.run.Goals as goal

-- what stands in a place of steps that there is not
abbrev idle : Step
idle = record { call = Start 0 0; answer = Ok Moved; pieces = 0; distance = 0 }

pub loop-step-init : goal.loop-step-init
loop-step-init g c = (sofar-none _ _ _ _ _ c.requires.stands c.requires.kept, refl, refl)

-- one more step, where the call leaves the stage and the rule as they were
module _ {R : Type 0} (allowed : R → Plan → List ℕ → Type 0) (named : R → Plan → List ℕ → Option ℕ → Type 0) (before : List Step) (n : ℕ) (steps : List Step) (first stage later : Stage) (first_rule rule later_rule : R) (w v : List ℕ) (s : Step) where
  one_more : n < length steps → s.call ≡ (get_or steps n idle).call
      → Sofar (plan first.tables) (allowed first_rule (plan first.tables)) (named first_rule (plan first.tables)) before n steps w → stage ≡ first → rule ≡ first_rule
      → later ≡ stage → later_rule ≡ rule
      → Promised (plan stage.tables) (allowed rule (plan stage.tables)) (named rule (plan stage.tables)) w s.call s.answer v
      → s.pieces ≡ on_count v → s.distance ≡ distance (plan later.tables) v
      → Sofar (plan first.tables) (allowed first_rule (plan first.tables)) (named first_rule (plan first.tables)) before (n + 1) (set steps n s) v × (later ≡ first) × (later_rule ≡ first_rule)
  one_more lt call so same_stage same_rule stays rule_stays promise pieces far =
      let t = plan first.tables in
      let by_stage = subst (λ (x : Stage). Promised (plan x.tables) (allowed rule (plan x.tables)) (named rule (plan x.tables)) w s.call s.answer v) same_stage promise in
      let by_rule = subst (λ (r : R). Promised t (allowed r t) (named r t) w s.call s.answer v) same_rule by_stage in
      let at_first = far ∙ ap (λ (x : Stage). distance (plan x.tables) v) (stays ∙ same_stage) in
      (sofar-more t (allowed first_rule t) (named first_rule t) before n steps w v s idle lt so call by_rule pieces at_first, stays ∙ same_stage, rule_stays ∙ same_rule)

pub loop-step-preserved : goal.loop-step-preserved
loop-step-preserved g c =
    let inv = c.loop-step.invariant in
    let before = c.loop-step.console in
    let entry = c.args.console.now in
    one_more g.R.AdmissionRule.allowed g.R.ClearingRule.named c.args.steps.now c.loop-step.step-index c.loop-step.steps entry.stage before.stage _ entry.rule before.rule _ before.placing _ _
    (omega arith) refl inv.0 inv.1 inv.2 (search) (search) (search) (search) (search)
