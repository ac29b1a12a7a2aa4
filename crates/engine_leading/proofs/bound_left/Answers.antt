-- `engine_leading::bound_left` meets its contract: what the last one alone leaves, or the greatest sum. Assumes nothing.
use Rattle.std.proofs.lemmas.Int.{to_z-of_z}
use Rattle.paper_board.specs.Paper.Values.{side_of}
use Rattle.engine_sums.specs.Sums.{bound_of}
use Rattle.engine_sums.specs.SumLaws.{time_fits}
use Rattle.engine_bound_beyond.specs.BoundBeyond.{last_alone, all_sums}
use Rattle.engine_leading.proofs.bound_left.Goals as goal

pub returns-then-standing_apart-eq0 : goal.returns-then-standing_apart-eq0
returns-then-standing_apart-eq0 c =
    let a = c.args in
    let b = a.bounds in
    let told = simp (to_z-of_z, time_fits (b.hours.time a.job)) at c.single.ensures in
    rw told
    (last_alone (side_of b.side) b.times.now b.lengths.now a.neighbours.beyond.now a.job a.set c.last-k.result _ c.last-k.ensures.0 c.last-k.ensures.1 c.standing_apart.ensures c.if-standing_apart-eq0.true)

pub returns-then-order-eq0 : goal.returns-then-order-eq0
returns-then-order-eq0 c =
    let a = c.args in
    let b = a.bounds in
    let side = side_of b.side in
    let told = simp (to_z-of_z, time_fits (b.hours.time a.job)) at c.energy_bound.ensures in
    all_sums side b.times.now b.lengths.now a.neighbours.beyond.now a.job a.set (bound_of side c.energy_bound.result) told

pub returns : goal.returns
returns c =
    let a = c.args in
    let b = a.bounds in
    let side = side_of b.side in
    let told = simp (to_z-of_z, time_fits (b.hours.time a.job)) at c.ordered_bound.ensures in
    all_sums side b.times.now b.lengths.now a.neighbours.beyond.now a.job a.set (bound_of side c.ordered_bound.result) told
