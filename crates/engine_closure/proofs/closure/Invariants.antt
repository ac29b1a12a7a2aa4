-- The board stays below every closed board above the one handed in, with its jobs and its books. The measure is the board's own.
use Rattle.paper_rules.specs.Update.Alone.{ArraysAlone}
use Rattle.paper_rules.specs.Update.Derives.{Derived}
use Rattle.paper_closure.specs.Measure.{measure}
use Rattle.engine_closure.proofs.closure.Given as goal

abbrev pub invariant-loop-marks : goal.invariant-loop-marks
invariant-loop-marks l = Derived l.initial.board l.board × ArraysAlone l.initial.board l.board

abbrev pub decreases-loop-marks : goal.decreases-loop-marks
decreases-loop-marks l = measure l.board
