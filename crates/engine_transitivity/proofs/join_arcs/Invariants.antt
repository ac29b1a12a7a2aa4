-- `engine_transitivity::join_arcs` meets its contract: one valid job after the other. Assumes nothing.
use Rattle.paper_board.specs.BoardTests.Sets.{Subset}
use Rattle.engine_arcs.specs.Arcs.{ArcsAlone, Sound}
use Rattle.engine_transitivity.specs.Transitivity.{AllValid}
use Rattle.engine_transitivity.proofs.join_arcs.Given as goal

abbrev pub invariant-loop-through : goal.invariant-loop-through
invariant-loop-through l =
    let b = l.initial.board in
    record {
      left : Subset l.through-iterator.left l.middles;
      kept : ArcsAlone b l.board;
      run : Sound (AllValid l.middles) b.before b.after l.board.before l.board.after;
    }
