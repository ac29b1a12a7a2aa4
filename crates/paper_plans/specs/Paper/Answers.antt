-- What the planner answers: a refusal, or how the tries ended.
use Rattle.std.specs.Prelude as std
use Rattle.paper_board.specs.declared.Refusal.{Refusal}
use Rattle.paper_plans.specs.declared.TriesEnd.{TriesEnd}

abbrev pub PlanAnswer : Type 0
PlanAnswer = std.Result TriesEnd Refusal
