use Rattle.std.proofs.Common.{sym, ◌∙◌, arith}
use Rattle.tables.specs.Plan.{plan}
use Rattle.figures.proofs.Sounds.{sound}
use Rattle.figures.proofs.Ways.{main-ahead}
use Rattle.console.proofs.shows.step_from.Goals as goal

pub map_or-requires : goal.map_or-requires
map_or-requires c =
    let t = c.args.tables.now in
    λ x e _ _. omega (arith, (main-ahead (plan t) (sound t) _ _ (sym c.main_next.ensures ∙ e)).1, (sound t).few)
