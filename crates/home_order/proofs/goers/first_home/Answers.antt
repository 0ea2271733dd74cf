use Rattle.tables.specs.Plan.{plan}
use Rattle.figures.proofs.Sounds.{sound}
use Rattle.home_order.specs.Points.{home-names}
use Rattle.home_order.proofs.goers.first_home.Goals as goal

pub returns : goal.returns
returns c =
    let tables = c.args.stage.now.tables in
    home-names (plan tables) (sound tables) c.args.placing.now c.first_to_go.result c.requires c.first_to_go.ensures
