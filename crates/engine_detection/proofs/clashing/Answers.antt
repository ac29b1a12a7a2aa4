-- `engine_detection::clashing` meets its contract: what it finds is in the set. Assumes nothing.
use Rattle.std.proofs.Common.{◌∙◌, to_z-of_z, w32}
use Rattle.paper_board.specs.Paper.Values.{side_of}
use Rattle.paper_board.specs.BoardTests.Sets.{subset_none, subset_with}
use Rattle.engine_sums.specs.SumLaws.{end_at_moderate}
use Rattle.engine_detection.proofs.clashing.Goals as goal

pub loop-k-init : goal.loop-k-init
loop-k-init c = (λ x e. cc, subset_none _)

pub sum-requires : goal.sum-requires
sum-requires c =
    let all = c.args.bounds in
    let end = end_at_moderate (side_of all.side) all.hours all.work c.in-Some.k in
    let end_is = to_z-of_z {w = w32} (record { sfits = c.end.type_inv }) ∙ c.end.ensures in
    simp (to_z-of_z, c.ranges.limit) (c.requires, rw end_is end)

pub loop-k-preserved-then-sum-gt0 : goal.loop-k-preserved-then-sum-gt0
loop-k-preserved-then-sum-gt0 c =
    let (left, found) = c.loop-k.invariant in
    let taken = c.in-Some.ensures.steps.1 in
    (λ x e. left x (taken.inside x e), rw c.with-found.ensures (subset_with _ _ _ found (left _ taken.member)))
