-- `engine_detection::detect_beside` meets its contract: one pair after the other. Assumes nothing.
use Rattle.paper_board.specs.BoardTests.Sets.{Subset}
use Rattle.engine_arcs.specs.Arcs.{ArcsAlone}
use Rattle.engine_detection.specs.Detection.{BoardSound, Beside}
use Rattle.engine_detection.proofs.detect_beside.Given as goal

abbrev pub invariant-loop-k : goal.invariant-loop-k
invariant-loop-k l =
    record {
      left : Subset l.k-iterator.left l.others;
      kept : ArcsAlone l.initial.board l.board;
      run : BoardSound (Beside l.job l.others) l.initial.board l.board;
    }
