-- `engine_makespan::append` meets its contract: a job that is left goes behind the others, and no other job changes anything. Assumes nothing.
use Rattle.std.proofs.Common.{rules, ◌≡◌, ◌∙◌, true, ◌<◌, ◌^◌, w32, SFits}
use Rattle.std.proofs.lemmas.Int.{to_z-of_z}
use Rattle.ground_sets.specs.Bit.{bit}
use Rattle.paper_board.specs.Paper.Limits.{job_limit}
use Rattle.paper_board.specs.Paper.Values.{side_of}
use Rattle.engine_sums.specs.SumLaws.{length_fits, length_at_moderate, bound_moderate}
use Rattle.engine_makespan.specs.Makespan.{in_range_moderate, greater_moderate, append_in_range, append_sequenced}
use Rattle.engine_makespan.proofs.append.Goals as goal

pub sum-end-requires : goal.sum-end-requires
sum-end-requires c =
    let b = c.args.bounds in
    let k = c.args.k in
    let end_fits : SFits w32 c.args.earlier.end = search rules in
    let low = to_z-of_z w32 _ (record { sfits = c.at-low.type_inv }) ∙ c.at-low.ensures in
    let after = to_z-of_z w32 _ (record { sfits = c.greater-after.type_inv }) ∙ (rw low at (simp (to_z-of_z, end_fits) at c.greater-after.ensures)) in
    rw after
    (greater_moderate (in_range_moderate b.work c.requires.1) (bound_moderate (side_of b.side) b.hours k), simp (to_z-of_z, length_fits b.work k) (length_at_moderate b.work k))

pub returns : goal.returns
returns c =
    let (width, ends) = c.requires in
    let a = c.args in
    let b = a.bounds in
    let end_fits : SFits w32 c.args.earlier.end = search rules in
    let low = to_z-of_z w32 _ (record { sfits = c.at-low.type_inv }) ∙ c.at-low.ensures in
    let after = to_z-of_z w32 _ (record { sfits = c.greater-after.type_inv }) ∙ (rw low at (simp (to_z-of_z, end_fits) at c.greater-after.ensures)) in
    let fits : a.earlier.left < 2 ^ job_limit = search rules in
    let member : bit a.earlier.left a.k ≡ true = cc in
    let end = to_z-of_z w32 _ (record { sfits = c.sum-end.type_inv }) ∙ (rw after at (simp (to_z-of_z, length_fits b.work a.k) at c.sum-end.ensures)) in
    rw (c.without.ensures, end)
    record {
      end_in_range = append_in_range (side_of b.side) b.hours b.work a.earlier.end fits width member ends;
      by_index = λ set. append_sequenced (side_of b.side) b.hours b.work a.earlier.end fits width member set;
    }
