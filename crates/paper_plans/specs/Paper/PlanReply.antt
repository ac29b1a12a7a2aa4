-- The planner's answers in the paper's words: what each case of the code's result stands for.
use Rattle.std.specs.Prelude.{List, ℕ, ℤ, pos, get_or, Ok, Err}
use Rattle.ground_sets.specs.Bit.{bit}
use Rattle.paper_board.specs.Paper.Refusals.{number_of}
use Rattle.paper_rules.specs.Paper.Schedules.{Placing}
use Rattle.paper_plans.specs.declared.TriesEnd.TheVariants as Ends
use Rattle.paper_plans.specs.declared.Planned.{Planned}
use Rattle.paper_plans.specs.Paper.Answers.{PlanAnswer}

-- found with T and the plan; none with T; spent with the budget; or the refusal's number
pub data PlanReply : Type 0 where
  plan_found : ℕ → Placing → PlanReply
  plan_none : ℕ → PlanReply
  plan_spent : ℕ → PlanReply
  no_plan : ℕ → PlanReply

-- "its plan, as a schedule, holds the placed jobs with their starts and no others"
abbrev pub placing : ℕ → List ℤ → Placing
placing word starts = record { placed = bit word; start = λ j. get_or starts j (pos 0) }

abbrev pub placing_of : Planned → Placing
placing_of p = placing p.placed p.starts

abbrev pub reply_with : Placing → PlanAnswer → PlanReply
reply_with p (Ok (Ends.Found t)) = plan_found t p
reply_with p (Ok (Ends.None t)) = plan_none t
reply_with p (Ok (Ends.Spent t)) = plan_spent t
reply_with p (Err r) = no_plan (number_of r)

abbrev pub plan_reply_of : Planned → PlanReply
plan_reply_of p = reply_with (placing_of p) p.answer
