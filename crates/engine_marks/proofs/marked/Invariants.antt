-- `engine_marks::marked` meets its contract. The loop's invariant: the set holds the jobs below k with the mark. Assumes nothing.
use Rattle.std.proofs.Common.{◌≡◌, ◌≤◌}
use Rattle.engine_marks.specs.Marked.{marked}
use Rattle.engine_marks.proofs.marked.Given as goal

abbrev pub invariant-loop-k : goal.invariant-loop-k
invariant-loop-k l = (l.k ≤ l.board.jobs) × (l.set ≡ marked l.k l.board.marks l.mark)
