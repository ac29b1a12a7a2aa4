-- What the planner must answer: how its tries end, left to their end, and what a budget makes of that.
use Rattle.std.specs.Prelude.{cond, ℕ, leb, ℤ, pos, ◌≤ℤ◌}
use Rattle.paper_board.specs.Paper.View.{View}
use Rattle.paper_entries.specs.Paper.Checks.{budget_limit}
use Rattle.paper_plans.specs.Paper.PlanReply.{PlanReply, plan_found, plan_none, plan_spent}
use Rattle.paper_plans.specs.Paper.Planner.{valid_jobs}
use Rattle.paper_plans.specs.Paper.Tries.{Ending, found, none, plan_of, tries}

-- "a budget, 0 to 1000000"
abbrev pub IsBudget : ℤ → Type 0
IsBudget z = (pos 0 ≤ℤ z) × (z ≤ℤ budget_limit)

-- the number of tries that an ending took
abbrev pub taken : Ending → ℕ
taken (found t ps) = t
taken (none t) = t

-- T: the tries that the planner takes, left to their end
abbrev pub tries_taken : View → ℕ
tries_taken v = taken (tries v (valid_jobs v))

-- "If this takes T tries and T is at most the budget, the answer is found or none with T; otherwise it is spent with the
-- budget."
abbrev pub reply_within : View → ℕ → Ending → PlanReply
reply_within v budget (found t ps) = cond (leb t budget) (plan_found t (plan_of v ps)) (plan_spent budget)
reply_within v budget (none t) = cond (leb t budget) (plan_none t) (plan_spent budget)
