-- `engine_ordered_bound::ordered_bound` meets its contract: the end of the jobs in their order is moderate. Assumes nothing.
use Rattle.std.proofs.Common.{rules, w32, SFits}
use Rattle.std.proofs.lemmas.Int.{to_z-of_z}
use Rattle.engine_makespan.specs.Makespan.{in_range_moderate}
use Rattle.engine_ordered_bound.proofs.ordered_bound.Goals as goal

pub above-requires : goal.above-requires
above-requires c =
    let end_fits : SFits w32 c.in_order-sequence.result.end = search rules in
    simp (to_z-of_z, end_fits) (in_range_moderate c.args.bounds.work c.in_order-sequence.ensures.end_in_range)
