-- `put_placements` meets its contract: up to each job, the placements so far are written.
use Rattle.std.proofs.Common.{arith, rules, get_or, pos, SFits}
use Rattle.std.specs.Int.{w32}
use Rattle.std.proofs.lemmas.Int.{to_z-of_z}
use Rattle.text_decimals.specs.Written.{nothing_written, append_written}
use Rattle.paper_plans.specs.Paper.PlanReply.{placing_of}
use Rattle.text_plans.specs.Placements.{no_placements, next_placement}
use Rattle.text_plans.proofs.put_placements.Goals as goal

pub loop-job-init : goal.loop-job-init
loop-job-init c = rw (no_placements (placing_of c.args.planned.now)) (nothing_written _)

pub loop-job-preserved : goal.loop-job-preserved
loop-job-preserved c =
    let fits : SFits w32 (get_or c.args.planned.now.starts c.loop-job.job (pos 0)) = search rules in
    rw (next_placement (placing_of c.args.planned.now) c.loop-job.job)
    (append_written c.loop-job.invariant (simp (to_z-of_z, fits) at c.put_placement.ensures) (omega arith))
