-- `engine_detection::detect_each` meets its contract: one job after the other. Assumes nothing.
use Rattle.paper_board.specs.BoardTests.Sets.{Subset}
use Rattle.engine_arcs.specs.Arcs.{ArcsAlone}
use Rattle.engine_detection.specs.Detection.{BoardSound, Meeting}
use Rattle.engine_detection.proofs.detect_each.Given as goal

abbrev pub invariant-loop-job : goal.invariant-loop-job
invariant-loop-job l =
    record {
      left : Subset l.job-iterator.left l.due;
      kept : ArcsAlone l.initial.board l.board;
      run : BoardSound (Meeting l.due l.others) l.initial.board l.board;
    }
