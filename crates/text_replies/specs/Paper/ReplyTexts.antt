-- "Each line gives one line": the answers as text.
use Rattle.std.specs.Prelude.{ℕ, ℤ, Bool, true, false, List, [], ◌∷◌, ◌++◌}
use Prim.Native.String.{String}
use Rattle.text_decimals.specs.Bytes.{bytes}
use Rattle.text_formats.specs.Format.{filled}
use Rattle.paper_board.specs.Paper.Limits.{job_limit}
use Rattle.paper_rules.specs.Paper.Schedules.{Placing}
use Rattle.paper_entries.specs.Paper.Replies.{Reply, ok_number, ok, no_number, RowReply, shows_row, no_row, PairReply, shows_pair, no_pair}
use Rattle.paper_plans.specs.Paper.PlanReply.{PlanReply, plan_found, plan_none, plan_spent, no_plan}
use Rattle.paper_plans.specs.Paper.Lists.{range}

-- a text with naturals at its marks `@` and numbers at its marks `#`, in turn
abbrev pub text : String → List ℕ → List ℤ → List ℕ
text s ns zs = filled (bytes s) ns zs

-- "`(no R)` with refusal R"
abbrev pub refusal_text : ℕ → List ℕ
refusal_text r = text "(no @)\n" (r ∷ []) []

-- "`(ok K)` for an addition, K its number; `(ok)`"
abbrev pub entry_text : Reply → List ℕ
entry_text (ok_number k) = text "(ok @)\n" (k ∷ []) []
entry_text ok = text "(ok)\n" [] []
entry_text (no_number r) = refusal_text r

-- "`row` prints job, mark, E, D and the two sets in decimal."
abbrev pub row_text : ℤ → RowReply → List ℕ
row_text j (shows_row m e d before after) =
    text "(row # @ # # (before @) (after @))\n" (m ∷ before ∷ after ∷ []) (j ∷ e ∷ d ∷ [])
row_text j (no_row r) = refusal_text r

-- "`two` prints pair and gap."
abbrev pub pair_text : PairReply → List ℕ
pair_text (shows_pair arcs gap) = text "(two @ #)\n" (arcs ∷ []) (gap ∷ [])
pair_text (no_pair r) = refusal_text r

-- "(job start) in job order": a job if it is placed, and all of those given
abbrev pub placement_text : Bool → ℕ → ℤ → List ℕ
placement_text true j z = text " (@ #)" (j ∷ []) (z ∷ [])
placement_text false j z = []

unfoldable pub placements_text : Placing → List ℕ → List ℕ
placements_text p [] = []
placements_text p (j ∷ js) = placement_text (p.placed j) j (p.start j) ++ placements_text p js

-- "`plan` prints T (the budget where spent), then `(found ..)` with (job start) in job order, `(found)` where no job is valid,
-- `(none)` or `(spent)`."
abbrev pub plan_text : PlanReply → List ℕ
plan_text (plan_found t p) = text "(plan @ (found" (t ∷ []) [] ++ placements_text p (range 0 job_limit) ++ text "))\n" [] []
plan_text (plan_none t) = text "(plan @ (none))\n" (t ∷ []) []
plan_text (plan_spent t) = text "(plan @ (spent))\n" (t ∷ []) []
plan_text (no_plan r) = refusal_text r

-- "`tally` prints the tally."
abbrev pub tally_text : ℕ → List ℕ
tally_text n = text "(tally @)\n" (n ∷ []) []
