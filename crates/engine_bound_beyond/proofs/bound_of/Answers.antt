-- `engine_bound_beyond::bound_of` meets its contract: the last one alone or with those that stand apart, or all sums. Assumes nothing.
use Rattle.std.proofs.lemmas.Int.{to_z-of_z}
use Rattle.paper_board.specs.Paper.Values.{side_of}
use Rattle.engine_sums.specs.Sums.{bound_of}
use Rattle.engine_sums.specs.SumLaws.{time_fits}
use Rattle.engine_bound_beyond.specs.BoundBeyond.{last_ends_by, last_alone, all_sums}
use Rattle.engine_bound_beyond.proofs.bound_of.Goals as goal

pub returns-then-apart-eq0 : goal.returns-then-apart-eq0
returns-then-apart-eq0 c =
    let found = c.last-k in
    let a = c.args in
    let b = a.bounds in
    let told = simp (to_z-of_z, time_fits (b.hours.time a.job)) at c.single.ensures in
    rw told
    (last_alone (side_of b.side) b.times.now b.lengths.now a.neighbours.beyond.now a.job a.set found.result _ found.ensures.0 found.ensures.1 c.standing_apart-apart.ensures c.if-apart-eq0.true)

pub returns-then-ends_by : goal.returns-then-ends_by
returns-then-ends_by c =
    let found = c.last-k in
    let a = c.args in
    let b = a.bounds in
    let ends = simp (to_z-of_z, time_fits (b.hours.time a.job)) at (c.ends_by.ensures c.if-ends_by.true) in
    last_ends_by (side_of b.side) b.times.now b.lengths.now a.neighbours.beyond.now a.job a.set found.result _ found.ensures.0 found.ensures.1 c.standing_apart-apart.ensures ends

pub returns : goal.returns
returns c =
    let a = c.args in
    let b = a.bounds in
    let side = side_of b.side in
    let told = simp (to_z-of_z, time_fits (b.hours.time a.job)) at c.energy_bound.ensures in
    all_sums side b.times.now b.lengths.now a.neighbours.beyond.now a.job a.set (bound_of side c.energy_bound.result) told
