-- `engine_exclusion::unfit` meets its contract: one job after the other. Assumes nothing.
use Rattle.paper_board.specs.BoardTests.Sets.{Subset}
use Rattle.engine_exclusion.specs.Gone.{Unfit}
use Rattle.engine_exclusion.proofs.unfit.Given as goal

abbrev pub invariant-loop-k : goal.invariant-loop-k
invariant-loop-k l = Subset l.k-iterator.left l.set × Unfit l.windows.earliest.now l.windows.latest.now l.windows.lengths.now l.set l.found
