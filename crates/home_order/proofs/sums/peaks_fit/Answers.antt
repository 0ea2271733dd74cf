use Rattle.std.proofs.Common.{◌≡◌, ◌+◌, ◌<◌, ◌≤◌, length, take, arith, rules, length-take}
use Rattle.std.proofs.lemmas.List.{get_or-take}
use Rattle.std.specs.Prelude.{Decides, EachIndex, slice_index}
use Rattle.tables.specs.Plan.{plan, kinds, capacity, need}
use Rattle.figures.specs.Claims.{peak}
use Rattle.home_order.proofs.sums.peaks_fit.Goals as goal

pub returns : goal.returns
returns c =
    let t = plan c.args.stage.now.tables in
    let p = c.args.p in
    let n = c.resource_count.result in
    let is : n ≡ kinds t = c.resource_count.ensures.is in
    let sums = c.args.sums.now in
    let known = take n sums in
    let long : length known ≡ n = omega (arith, length-take n sums, c.resource_count.ensures.few) in
    let each : Decides c.all.result (EachIndex known (λ r. slice_index known r + peak t r p ≤ capacity t r + need t p r)) = search rules in (
      λ e r lt. let at : r < n = omega arith in omega (arith, each.0 e r (omega arith), get_or-take n sums r 0 at),
      λ h. each.1 (λ r lt. let at : r < n = omega arith in omega (arith, h r (omega arith), get_or-take n sums r 0 at)),
    )
