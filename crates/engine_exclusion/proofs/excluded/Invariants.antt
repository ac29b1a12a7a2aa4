-- `engine_exclusion::excluded` meets its contract: one job after the other. Assumes nothing.
use Rattle.paper_board.specs.BoardTests.Sets.{Subset}
use Rattle.engine_exclusion.specs.Gone.{Crossed}
use Rattle.engine_exclusion.proofs.excluded.Given as goal

abbrev pub invariant-loop-k : goal.invariant-loop-k
invariant-loop-k l = Subset l.k-iterator.left l.set × Crossed l.arcs.before.now l.arcs.after.now l.set l.found
