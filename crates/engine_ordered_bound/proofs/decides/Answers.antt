-- `engine_ordered_bound::decides` meets its contract: an end that no sum is above, and that is no higher than `low`, or a sum. Assumes nothing.
use Rattle.std.proofs.Common.{sym, ap, ◌∙◌, eqb-true, w32, to_z, of_z}
use Rattle.std.proofs.lemmas.Int.{to_z-of_z}
use Rattle.engine_sums.specs.SumLaws.{none_above, part_sum, back_moderate, low_back, all_back}
use Rattle.engine_ordered_bound.proofs.decides.Goals as goal

pub sum-requires : goal.sum-requires
sum-requires c =
    let b = c.args.bounds in
    back_moderate b.hours b.work c.whole-all.ensures.comes c.if-block-eq0.false

pub returns : goal.returns
returns c = λ e.
    let b = c.args.bounds in
    let comes = c.whole-all.ensures.comes in
    let some_job = c.if-block-eq0.false in
    let is = rw (low_back b.hours b.work comes some_job, all_back b.hours b.work comes some_job) at c.sum.ensures in
    let same = sym (to_z-of_z w32 _ (record { sfits = c.sum.type_inv })) ∙ ap (to_z w32) (eqb-true (of_z w32 c.sum.result) (of_z w32 c.args.end) e) ∙ to_z-of_z w32 _ c.ranges.end in
    none_above c.args.low c.args.end c.requires (λ more. rw (sym is ∙ same) at (part_sum c.bounded_from-block.ensures comes some_job))
