-- `engine_transitivity::join_through` meets its contract: one row after the other. Assumes nothing.
use Rattle.paper_board.specs.BoardTests.Sets.{Subset}
use Rattle.engine_arcs.specs.Arcs.{ArcsAlone, Sound}
use Rattle.engine_transitivity.specs.Transitivity.{Through}
use Rattle.engine_transitivity.proofs.join_through.Given as goal

abbrev pub invariant-loop-from : goal.invariant-loop-from
invariant-loop-from l =
    let b = l.initial.board in
    record {
      left : Subset l.from-iterator.left l.sources;
      kept : ArcsAlone b l.board;
      run : Sound (Through l.through) b.before b.after l.board.before l.board.after;
    }
