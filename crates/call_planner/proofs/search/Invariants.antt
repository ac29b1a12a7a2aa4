-- The loop of `call_planner::search` keeps the planner's state. Each turn makes a try, or takes a placing back.
use Rattle.std.proofs.Common.{◌≡◌, false, ◌+◌, ◌-◌, ◌*◌, length}
use Rattle.call_placements.specs.PlannerState.{PlannerState}
use Rattle.call_planner.proofs.search.Given as goal

abbrev pub invariant-loop-unplaced : goal.invariant-loop-unplaced
invariant-loop-unplaced l = (l.left.downward ≡ false) × PlannerState l.board l.stack l.unplaced l.left.left l.free l.tries l.budget

abbrev pub decreases-loop-unplaced : goal.decreases-loop-unplaced
decreases-loop-unplaced l = (l.budget - l.tries) * 2 + length l.stack
