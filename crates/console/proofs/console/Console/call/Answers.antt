use Rattle.tables.specs.Plan.{plan}
use Rattle.figures.proofs.Sounds.{sound}
use Rattle.history.proofs.Evenings.{promised}
use Rattle.console.proofs.console.Console.call.Goals as goal

pub returns : goal.returns
returns g c =
    let self = c.args.self.now in
    let tables = self.stage.tables in
    let done = c.make.ensures in
    record {
      house = record { stage = done.house.stage; rule = done.house.rule };
      answer = done.answer;
      placing = done.placing;
      promise = promised (plan tables) (sound tables) _ _ c.points.ensures self.placing c.args.call c.make.result _ done.answer done.placing;
    }
