-- `engine_precedence::push` meets its contract: one job after the other. Assumes nothing.
use Rattle.paper_board.specs.Paper.Values.{side_of}
use Rattle.engine_sums.specs.Sums.{Times}
use Rattle.engine_leading.specs.Leading.{Leaves}
use Rattle.engine_precedence.specs.Precedence.{Raises, Shuts, PrecedenceRead}
use Rattle.engine_precedence.proofs.push.Given as goal

abbrev pub invariant-loop-job : goal.invariant-loop-job
invariant-loop-job l =
    let read = PrecedenceRead (side_of l.side) l.fixed l.lengths l.neighbours.beyond.now l.valid in
    record {
      hours : Times l.times;
      leaves : Leaves (side_of l.side) l.times l.lengths l.known;
      raised : Raises (side_of l.side) read l.fn.times l.times;
      shut : Shuts (side_of l.side) read l.fn.times l.all.stuck;
    }
