-- `engine_transitivity::join` meets its contract: R1 infers each arc that it sets. Assumes nothing.
use Rattle.paper_board.specs.BoardTests.Sets.{Subset}
use Rattle.engine_arcs.specs.Arcs.{ArcsAlone, Sound}
use Rattle.engine_transitivity.specs.Transitivity.{missing, Forth}
use Rattle.engine_transitivity.proofs.join.Given as goal

abbrev pub invariant-loop-to : goal.invariant-loop-to
invariant-loop-to l =
    let b = l.initial.board in
    record {
      left : Subset l.to-iterator.left (missing b.after l.from l.through);
      kept : ArcsAlone b l.board;
      run : Sound (Forth l.from l.through) b.before b.after l.board.before l.board.after;
    }
