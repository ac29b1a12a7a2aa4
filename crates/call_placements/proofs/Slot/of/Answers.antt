-- `call_placements::Slot::of` meets its contract: what it adds up is a time and a length. Assumes nothing.
use Rattle.std.proofs.Math.Facts.{to_z-of_z}
use Rattle.paper_board.specs.Paper.Limits.{IsTime}
use Rattle.paper_board.specs.BoardTests.Ranges.{ranges, greater_time, time_moderate, length_moderate}
use Rattle.engine_sums.specs.RaiseExact.{lengths_within}
use Rattle.engine_sums.specs.SumLaws.{time_fits, length_fits}
use Rattle.call_placements.proofs.Slot.of.Goals as goal

pub sum-end-requires : goal.sum-end-requires
sum-end-requires c =
    let b = c.args.board.now in
    let h = c.requires.0 in
    let r = ranges b h c.args.job in
    let start = simp (to_z-of_z, time_fits r.earliest, c.ranges.free) at c.greater-start.ensures in
    let time : IsTime c.greater-start.result = rw start (greater_time r.earliest c.requires.2) in
    simp (to_z-of_z, time_fits time, length_fits (lengths_within b h) c.args.job) (time_moderate time, length_moderate r)
