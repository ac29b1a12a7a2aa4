-- `engine_ordered_bound::bounded_from` meets its contract: what it finds is in the set. Assumes nothing.
use Rattle.paper_board.specs.BoardTests.Sets.{Subset}
use Rattle.engine_ordered_bound.proofs.bounded_from.Given as goal

abbrev pub invariant-loop-k : goal.invariant-loop-k
invariant-loop-k l = Subset l.k-iterator.left l.set × Subset l.found l.set
