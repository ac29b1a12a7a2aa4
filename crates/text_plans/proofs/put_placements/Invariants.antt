-- `put_placements` meets its contract: up to each job, the placements so far are written.
use Rattle.std.proofs.Common.{◌*◌}
use Rattle.text_decimals.specs.Written.{Written}
use Rattle.paper_plans.specs.Paper.PlanReply.{placing_of}
use Rattle.paper_plans.specs.Paper.Lists.{range}
use Rattle.text_replies.specs.Paper.ReplyTexts.{placements_text}
use Rattle.text_replies.specs.Room.{placement_room}
use Rattle.text_plans.proofs.put_placements.Given as goal

abbrev pub invariant-loop-job : goal.invariant-loop-job
invariant-loop-job l = Written l.initial.page l.page (placements_text (placing_of l.fn.planned) (range 0 l.job)) (l.job * placement_room)
