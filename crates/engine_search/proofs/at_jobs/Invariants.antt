-- `engine_search::at_jobs` meets its contract: where a job has been searched without a finding, R4 to R6 are settled there. Assumes nothing.
use Rattle.std.proofs.Common.{◌≡◌, true, ◌<◌, ℕ}
use Rattle.ground_sets.specs.Bit.{bit}
use Rattle.paper_board.specs.declared.Board.{Board}
use Rattle.paper_board.specs.Paper.Limits.{job_limit}
use Rattle.paper_board.specs.Paper.View.{view}
use Rattle.engine_job_rules.specs.JobSearched.{JobSettled}
use Rattle.engine_search.specs.PairsWalk.{BoardRead, JobsLeft}
use Rattle.engine_search.proofs.at_jobs.Given as goal

abbrev pub invariant-loop-job : goal.invariant-loop-job
invariant-loop-job l =
    (l.early < job_limit)
    × (l.late < job_limit)
    × ((b : Board) → BoardRead b l.fn.sets.live l.fn.sets.valid l.windows.earliest.now l.windows.latest.now l.windows.lengths.now l.arcs.before.now l.arcs.after.now
    → JobsLeft (view b) l.job-iterator.left × ((k : ℕ) → bit l.done k ≡ true → JobSettled (view b) k))
