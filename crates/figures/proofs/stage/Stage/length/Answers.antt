use Rattle.std.proofs.Common.{sym, ◌∙◌}
use Rattle.tables.specs.Plan.{plan, count}
use Rattle.figures.proofs.Sounds.{sound}
use Rattle.figures.proofs.Entries.{entry-or}
use Rattle.figures.proofs.Lengths.{length-past}
use Rattle.figures.proofs.stage.Stage.length.Goals as goal

pub returns : goal.returns
returns c =
    let s = c.args.self.now in
    let t = plan s.tables in
    let p = c.args.p in
    c.unwrap_or.ensures ∙ entry-or (count t) p s.lengths 0 _ _ _ c.entry.ensures (s.lengths_held p) (λ ge. sym (length-past t (sound s.tables) p ge))
