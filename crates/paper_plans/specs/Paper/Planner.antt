-- The planner's answer, for every board handed in and every budget.
use Rattle.std.specs.Prelude.{true, false, cond, List, [], ◌∷◌, ℕ, leb, ℤ, pos, replicate, set, Ok, Err}
use Rattle.std.proofs.Math.Option as Options
use Rattle.ground_sets.specs.Bit.{with}
use Rattle.paper_board.specs.declared.Board.{Board}
use Rattle.paper_board.specs.declared.Refusal.TheVariants as Refused
use Rattle.paper_board.specs.Paper.Limits.{job_limit}
use Rattle.paper_board.specs.Paper.View.{View, view}
use Rattle.paper_board.specs.Paper.Tests.{valid}
use Rattle.paper_closure.specs.Passes.{passes}
use Rattle.paper_entries.specs.Paper.Entry.{number}
use Rattle.paper_entries.specs.Paper.Checks.{budget_check, first_refusal}
use Rattle.paper_plans.specs.declared.TriesEnd.TheVariants as Ends
use Rattle.paper_plans.specs.declared.Planned.{Planned}
use Rattle.paper_plans.specs.Paper.Answers.{PlanAnswer}
use Rattle.paper_plans.specs.Paper.Lists.{range, keep}
use Rattle.paper_plans.specs.Paper.Tries.{Ending, found, none, start_after, tries}

-- "it tries valid unplaced jobs in ascending number"; "Undecided jobs are not placed."
abbrev pub valid_jobs : View → List ℕ
valid_jobs v = keep (valid v) (range 0 v.jobs)

-- the placed jobs as a word, and their starts
unfoldable pub placed_word : List ℕ → ℕ
placed_word [] = 0
placed_word (j ∷ ps) = with (placed_word ps) j

unfoldable pub start_list : View → List ℕ → List ℤ
start_list v [] = replicate job_limit (pos 0)
start_list v (j ∷ ps) = set (start_list v ps) j (start_after v ps j)

-- an answer without a plan
abbrev pub unplanned : PlanAnswer → Planned
unplanned a = record { answer = a; placed = 0; starts = replicate job_limit (pos 0) }

-- an answer with its plan
abbrev pub with_plan : View → PlanAnswer → List ℕ → Planned
with_plan v a ps = record { answer = a; placed = placed_word ps; starts = start_list v ps }

-- "If this takes T tries and T is at most the budget, the answer is found or none with T; otherwise it is spent with the
-- budget."
abbrev pub planned_within : View → ℕ → Ending → Planned
planned_within v budget (found t ps) = cond (leb t budget) (with_plan v (Ok (Ends.Found t)) ps) (unplanned (Ok (Ends.Spent budget)))
planned_within v budget (none t) = cond (leb t budget) (unplanned (Ok (Ends.None t))) (unplanned (Ok (Ends.Spent budget)))

-- refusals 0 and 9
unfoldable pub plan : Board → ℤ → Planned
plan b z =
    elim (passes b) [
      | false ↦ unplanned (Err Refused.Board)
      | true ↦
          elim (first_refusal (budget_check z ∷ [])) [
            | Options.some r ↦ unplanned (Err r)
            | Options.none ↦ planned_within (view b) (number z) (tries (view b) (valid_jobs (view b)))
          ]
    ]
