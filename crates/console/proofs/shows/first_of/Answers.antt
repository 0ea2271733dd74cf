use Rattle.std.proofs.Common.{◌≡◌, Some, subst, rules}
use Rattle.figures.proofs.Sounds.{sound}
use Rattle.figures.proofs.Entries.{match-weaker}
use Rattle.std.specs.Slice.{IsItemAt}
use Rattle.console.proofs.Shown.{first-there}
use Rattle.console.proofs.shows.first_of.Goals as goal

pub returns : goal.returns
returns c =
    let t = c.args.tables.now in
    first-there t (sound t) c.args.route c.get.result c.map.result (subst (λ rs. IsItemAt rs c.args.route c.get.result) c.routes.ensures c.get.ensures.lookup) (match-weaker c.get.result _ _ (λ x. c.map.result ≡ Some x.now.first) (λ x h. search rules) c.map.ensures.cases)
