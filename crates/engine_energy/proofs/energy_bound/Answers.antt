-- `engine_energy::energy_bound` meets its contract. The loop's invariant is `InPlay`, which each round keeps, with what the set in
-- play comes to; the measure is the word of that set, of which each round strikes one job at least. Assumes nothing.
use Rattle.std.proofs.Common.{refl, ◌∙◌, inl, w32}
use Rattle.std.proofs.lemmas.Int.{to_z-of_z}
use Rattle.paper_board.specs.Paper.Values.{side_of}
use Rattle.engine_sums.specs.SumLaws.{low_back, all_back, back_moderate, best_moderate, turned_moderate, all_in_play, none_in_play, top_best, round, round_falls}
use Rattle.engine_energy.proofs.energy_bound.Goals as goal

pub loop-play-init : goal.loop-play-init
loop-play-init c =
    let told = c.whole-play.ensures in
    (all_in_play c.ranges.set.fits told.set_value, inl refl, rw told.set_value told.comes)

pub sum-requires : goal.sum-requires
sum-requires c =
    let b = c.args.bounds in
    back_moderate b.hours b.work c.loop-play.invariant.2 c.loop-play-test.true

pub loop-play-smaller : goal.loop-play-smaller
loop-play-smaller c =
    let b = c.args.bounds in
    let (p, _, comes) = c.loop-play.invariant in
    let sum_is = to_z-of_z w32 _ (record { sfits = c.sum.type_inv }) ∙ (rw (low_back b.hours b.work comes c.loop-play-test.true, all_back b.hours b.work comes c.loop-play-test.true) at c.sum.ensures) in
    let top = to_z-of_z w32 _ (record { sfits = c.greater-best.type_inv }) ∙ (rw sum_is at c.greater-best.ensures) in
    round_falls b.hours b.work p comes c.loop-play-test.true top c.strike-play.ensures.strikes c.strike-play.ensures.beats

pub loop-play-preserved : goal.loop-play-preserved
loop-play-preserved c =
    let b = c.args.bounds in
    let (p, best, comes) = c.loop-play.invariant in
    let sum_is = to_z-of_z w32 _ (record { sfits = c.sum.type_inv }) ∙ (rw (low_back b.hours b.work comes c.loop-play-test.true, all_back b.hours b.work comes c.loop-play-test.true) at c.sum.ensures) in
    let top = to_z-of_z w32 _ (record { sfits = c.greater-best.type_inv }) ∙ (rw sum_is at c.greater-best.ensures) in (
      round b.hours b.work p comes c.loop-play-test.true top c.strike-play.ensures.strikes,
      top_best b.hours b.work p comes c.loop-play-test.true top best,
      c.strike-play.ensures.comes,
    )

pub above-requires : goal.above-requires
above-requires c =
    let b = c.args.bounds in
    let low_is = to_z-of_z w32 _ (record { sfits = c.turned-low.type_inv }) ∙ simp (to_z-of_z, c.ranges.floor) at c.turned-low.ensures in
    best_moderate b.hours b.work (rw low_is (turned_moderate (side_of b.side) c.args.floor c.requires)) c.loop-play.invariant.1

pub returns : goal.returns
returns c =
    let (p, best, _) = c.loop-play.invariant in
    let low_is = to_z-of_z w32 _ (record { sfits = c.turned-low.type_inv }) ∙ simp (to_z-of_z, c.ranges.floor) at c.turned-low.ensures in
    rw (c.above.ensures, ← low_is) (none_in_play c.loop-play-test.false p best)
