use Rattle.std.proofs.Common.{◌≡◌, ℕ, List, Some, ap, ◌∙◌, subst, rules, tests}
use Rattle.std.specs.List.{ContainsAt as Has}
use Rattle.std.specs.Option.{MatchOption}
use Rattle.std.proofs.lemmas.Iterator.{YieldsList-from_slice, first_from_find}
use Rattle.tables.specs.Plan.{plan, next}
use Rattle.figures.proofs.Sounds.{sound}
use Rattle.figures.proofs.Entries.{match-weaker}
use Rattle.console.proofs.Shown.{found, found-within}
use Rattle.console.proofs.shows.next_of.Goals as goal

pub returns : goal.returns
returns c =
    let tables = c.args.tables.now in
    let t = plan tables in
    let position = c.args.position in
    let same : c.nexts.result.now ≡ next t c.args.p = c.nexts.ensures ∙ ap (next t) c.from.ensures in
    let P : List ℕ → Type 0 = λ named. MatchOption c.map.result (Has named position → ⊥) (λ q. Has named position × (q ≡ position)) in
    found-within t (sound tables) c.args.p position c.map.result (subst P same (found c.nexts.result.now position c.find.result c.map.result
    (first_from_find _ _ c.find.result (λ y. y ≡ position) (λ y. y ≡ position → ⊥) c.find.ensures.ran (YieldsList-from_slice c.nexts.result.now (cc)) (λ x q k. search (rules, tests)) (λ x q k. search (rules, tests)))
    (match-weaker c.find.result _ _ (λ x. c.map.result ≡ Some x.now) (λ x h. search rules) c.map.ensures.cases)))
