-- `engine_detection::last_end` meets its contract: the last end is far from the ends of an i32. Assumes nothing.
use Rattle.ground_arithmetic.specs.Time.{Moderate}
use Rattle.engine_detection.proofs.last_end.Given as goal

abbrev pub invariant-loop-k : goal.invariant-loop-k
invariant-loop-k l = Moderate l.last
