use Rattle.tables.specs.Plan.{plan}
use Rattle.figures.proofs.Sounds.{sound}
use Rattle.net.proofs.Firing.{as-the-net}
use Rattle.net.proofs.ordered_call.Goals as goal

pub returns : goal.returns
returns c =
    let console = c.args.console.now in
    let tables = console.stage.tables in
    let done = c.call.ensures in
    record {
      stage = done.house.stage;
      call = record {
        answer = done.answer;
        placing = done.placing;
        promise = done.promise;
        net = as-the-net (plan tables) (sound tables) console.placing c.args.call c.call.result _ done.answer done.promise;
      };
    }
