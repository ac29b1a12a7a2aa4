-- `engine_marks::Marks::of` meets its contract. The loop's invariant: the sets hold the jobs below k. Assumes nothing.
use Rattle.std.proofs.Common.{◌≡◌, ◌≤◌}
use Rattle.engine_marks.specs.Marked.{marked, unmarked}
use Rattle.engine_marks.proofs.Marks.of.Given as goal

abbrev pub invariant-loop-k : goal.invariant-loop-k
invariant-loop-k l = (l.k ≤ l.board.jobs) × (l.live ≡ unmarked l.k l.board.marks 2) × (l.valid ≡ marked l.k l.board.marks 1)
