-- `engine_makespan::in_order` meets its contract: eight jobs after eight. Assumes nothing.
use Rattle.paper_board.specs.Paper.Values.{side_of}
use Rattle.engine_makespan.specs.Makespan.{EndInRange, Sequenced}
use Rattle.engine_makespan.proofs.in_order.Given as goal

abbrev pub invariant-loop-n : goal.invariant-loop-n
invariant-loop-n l =
    let b = l.bounds in
    record {
      ends : EndInRange b.lengths.now l.sequence.left l.sequence.end;
      sequenced : Sequenced (side_of b.side) b.times.now b.lengths.now l.set l.sequence.left l.sequence.end;
    }
