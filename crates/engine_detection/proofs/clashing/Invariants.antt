-- `engine_detection::clashing` meets its contract: what it finds is in the set. Assumes nothing.
use Rattle.paper_board.specs.BoardTests.Sets.{Subset}
use Rattle.engine_detection.proofs.clashing.Given as goal

abbrev pub invariant-loop-k : goal.invariant-loop-k
invariant-loop-k l = Subset l.k-iterator.left l.set × Subset l.found l.set
