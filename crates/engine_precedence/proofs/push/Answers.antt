-- `engine_precedence::push` meets its contract: one job after the other. Assumes nothing.
use Rattle.paper_board.specs.Paper.Values.{side_of}
use Rattle.engine_precedence.specs.Precedence.{raises_none, shuts_none, pushed_on}
use Rattle.engine_precedence.proofs.push.Goals as goal

pub loop-job-init : goal.loop-job-init
loop-job-init c =
    record {
      hours = c.requires.0;
      leaves = _;
      raised = raises_none _ _ _ _ _ _;
      shut = rw c.default-all.ensures.1.0 (shuts_none _ _ _ _ _ _);
    }

-- one job more
pub loop-job-preserved : goal.loop-job-preserved
loop-job-preserved c =
    let inv = c.loop-job.invariant in
    let side = side_of c.args.side in
    let step = c.push_job-step.ensures in
    let is = c.leading_to-leading.ensures.leads_to in
    let (raised, shut) = pushed_on side _ _ _ _ _ _ _ _ _ _ inv.raised inv.shut (step.raises _ is, step.shuts _ is) c.bitor-all.ensures in
    record {
      hours = step.times.0;
      leaves = c.lasting-known.ensures side _ _ _ c.leading_to-leading.ensures.leaves step.times.1;
      raised = raised;
      shut = shut;
    }

pub returns-then-intersection-ne0 : goal.returns-then-intersection-ne0
returns-then-intersection-ne0 c =
    let inv = c.loop-job.invariant in
    let step = c.push_job-step.ensures in
    let is = c.leading_to-leading.ensures.leads_to in
    let (raised, shut) = pushed_on (side_of c.args.side) _ _ _ _ _ _ _ _ _ _ inv.raised inv.shut (step.raises _ is, step.shuts _ is) c.bitor-all.ensures in
    record { times = step.times.0; raises = raised; shuts = shut }
