-- `engine_ordered_bound::bounded_from` meets its contract: what it finds is in the set. Assumes nothing.
use Rattle.std.proofs.Common.{◌≡◌}
use Rattle.paper_board.specs.BoardTests.Sets.{subset_none, subset_with}
use Rattle.engine_ordered_bound.proofs.bounded_from.Goals as goal

pub loop-k-init : goal.loop-k-init
loop-k-init c =
    let start : c.into_iter-k-iterator.result.left ≡ c.args.set = cc in
    (rw start λ x e. e, subset_none _)

pub loop-k-preserved-then-start-bound : goal.loop-k-preserved-then-start-bound
loop-k-preserved-then-start-bound c =
    let (left, found) = c.loop-k.invariant in
    let taken = c.in-Some.ensures.steps.1 in
    (λ x e. left x (taken.inside x e), rw c.with-found.ensures (subset_with _ _ _ found (left _ taken.member)))
