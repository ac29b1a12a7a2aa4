-- `engine_limits::within_limits` meets its contract: a board with too many jobs is not within its limits, and of any other the places and the
-- agreement of the arcs decide.
use Rattle.std.proofs.Common.{rules, arith}
use Rattle.paper_board.specs.Paper.Limits.{Shape}
use Rattle.paper_board.specs.BoardTests.Decides.{failed, second_asked, first_failed, same_decision}
use Rattle.paper_board.proofs.LimitsDecided.{decides_limits}
use Rattle.engine_limits.specs.LimitsTested.{limits_tested}
use Rattle.engine_limits.proofs.within_limits.Goals as goal

pub returns-then-board-gt-JOBS : goal.returns-then-board-gt-JOBS
returns-then-board-gt-JOBS c = same_decision (failed λ w. omega (arith, w.limits.jobs)) (decides_limits _)

pub returns-then-places_hold : goal.returns-then-places_hold
returns-then-places_hold c =
    let shape : Shape c.args.board.now = search rules in
    limits_tested c.args.board.now shape (omega arith) (second_asked c.if-places_hold.true c.places_hold.ensures c.agree.ensures)

pub returns-else-places_hold : goal.returns-else-places_hold
returns-else-places_hold c =
    let shape : Shape c.args.board.now = search rules in
    limits_tested c.args.board.now shape (omega arith) (first_failed c.if-places_hold.false c.places_hold.ensures)
