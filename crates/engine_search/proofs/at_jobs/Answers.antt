-- `engine_search::at_jobs` meets its contract: where a job has been searched without a finding, R4 to R6 are settled there. Assumes nothing.
use Rattle.std.proofs.Common.{rules, ◌≡◌, sym, subst, ◌∙◌, ◌<◌, ◌^◌, arith}
use Rattle.ground_sets.specs.BitLaws.{bit_zero}
use Rattle.ground_walks.specs.Walk.{visited, none_left}
use Rattle.ground_arithmetic.specs.Bools.{refuted}
use Rattle.paper_board.specs.declared.Board.{Board}
use Rattle.paper_board.specs.Paper.View.{view}
use Rattle.engine_findings.specs.InferredOf.{inferred_of, nothing_found, something_found}
use Rattle.engine_findings.specs.Searched.{Searched}
use Rattle.engine_job_rules.specs.JobSearched.{JobSettled, read_early, read_late}
use Rattle.engine_dominance.specs.Dominance.{represented}
use Rattle.engine_search.specs.PairsWalk.{BoardRead, JobsLeft, all_left, settled_with}
use Rattle.engine_search.proofs.at_jobs.Goals as goal
use Rattle.engine_search.proofs.at_jobs.Goals.{After-at_job-found}

-- what the search at the job says
searched : (c : After-at_job-found) (b : Board)
    → let a = c.args in
    BoardRead b a.sets.live a.sets.valid a.windows.earliest.now a.windows.latest.now a.windows.lengths.now a.arcs.before.now a.arcs.after.now
    → Searched (view b) (JobSettled (view b) c.in-Some.job) (inferred_of c.at_job-found.result)
searched c b h =
    let (jobs, settled) = c.loop-job.invariant.2 b h in
    c.at_job-found.ensures b h.arrays (jobs.member _ c.in-Some.ensures.steps.1.member)
    (represented (read_early h.arrays) _ _ _ (λ k e. (settled k e).settled _) c.representative-early.ensures)
    (represented (read_late h.arrays) _ _ _ (λ k e. (settled k e).settled _) c.representative-late.ensures)

pub loop-job-init : goal.loop-job-init
loop-job-init c =
    let start : c.into_iter-job-iterator.result.left ≡ c.args.sets.live = cc in
    let fits : c.args.sets.live < 2 ^ 64 = search rules in
    (omega arith, omega arith, λ b h. (rw start (all_left h fits _), λ k e. absurd (refuted (bit_zero k) e)))

pub returns-then-is_some : goal.returns-then-is_some
returns-then-is_some c b h = something_found (view b) _ _ _ (sym c.is_some.ensures ∙ c.if-is_some.true) (searched c.before.before.before b h)

pub loop-job-preserved : goal.loop-job-preserved
loop-job-preserved c = (
  c.representative-early.ensures.0,
  c.representative-late.ensures.0,
  λ b h.
      let (jobs, settled) = c.loop-job.invariant.2 b h in
      let now = rw (nothing_found _ (sym c.is_some.ensures ∙ c.if-is_some.false)) at (searched c.before.before.before.before b h) in
      (visited jobs c.in-Some.ensures.steps.1 now, rw c.with-done.ensures (settled_with (view b) c.loop-job.done c.in-Some.job settled now)),
)

pub returns : goal.returns
returns c b h = none_left (subst (JobsLeft (view b)) c.in-None.ensures.steps.1.0 (c.loop-job.invariant.2 b h).0)
