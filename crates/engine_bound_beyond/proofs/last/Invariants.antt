-- `engine_bound_beyond::last` meets its contract. The loop's invariant: k is a job of the set. Assumes nothing.
use Rattle.std.proofs.Common.{◌≡◌, true, ◌<◌}
use Rattle.ground_sets.specs.Bit.{bit}
use Rattle.paper_board.specs.Paper.Limits.{job_limit}
use Rattle.engine_bound_beyond.proofs.last.Given as goal

abbrev pub invariant-loop : goal.invariant-loop
invariant-loop l = (l.k < job_limit) × (bit l.set l.k ≡ true)
