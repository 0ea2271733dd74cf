use Rattle.std.proofs.Common.{ap, ◌∙◌}
use Rattle.tables.specs.Plan.{plan}
use Rattle.figures.specs.declared.stage.Stage.{Stage}
use Rattle.figures.specs.Placing.{distance}
use Rattle.session.proofs.session.answer_line.Goals as goal

pub returns-clause-answered : goal.returns-clause-answered
returns-clause-answered c = λ text held.
    let done = c.answer_to-answer.ensures in
    let after = c.answer_to-answer.new.console in
    record {
      answer = done.answered text held;
      home = c.home-distance.ensures.distance ∙ ap (λ (s : Stage). distance (plan s.tables) after.placing) done.stage;
    }
