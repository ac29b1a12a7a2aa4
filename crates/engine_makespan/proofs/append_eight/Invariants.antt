-- `engine_makespan::append_eight` meets its contract: one job after the other. Assumes nothing.
use Rattle.std.proofs.Common.{ℕ}
use Rattle.paper_board.specs.Paper.Values.{side_of}
use Rattle.engine_makespan.specs.Makespan.{EndInRange, Sequenced}
use Rattle.engine_makespan.proofs.append_eight.Given as goal

abbrev pub invariant-loop : goal.invariant-loop
invariant-loop l =
    let b = l.bounds in
    record {
      ends : EndInRange b.lengths.now l.sequence.left l.sequence.end;
      onward : (set : ℕ) → Sequenced (side_of b.side) b.times.now b.lengths.now set l.initial.sequence.left l.initial.sequence.end → Sequenced (side_of b.side) b.times.now b.lengths.now set l.sequence.left l.sequence.end;
    }
