-- Each number that a sort of call has is the refusal of one such call: on the board after a day, on a full board of invalid jobs, and on
-- one whose tally is above its limit.
use Rattle.std.specs.Prelude.{◌≡◌, refl, true, ℕ, suc, pos, negsuc, replicate}
use Rattle.std.proofs.Math.Path.{subst⁻¹}
use Rattle.std.proofs.Common.{⊎_elim}
use mathlib.Core.List.Memᴰ
use mathlib.Core.List.{List, [], ◌∷◌, Memᴰ}
use Rattle.std.proofs.Math.Option.{some}
use Rattle.std.proofs.lemmas.List.{get_or-replicate}
use Rattle.ground_sets.specs.Bit.{bit, with, without, union, difference, singleton}
use Rattle.ground_arithmetic.specs.Linear.{eq_z}
use Rattle.ground_arithmetic.specs.Sum.{sum, count}
use Rattle.paper_board.specs.declared.Board.{Board}
use Rattle.paper_board.specs.declared.Refusal.TheVariants as Refused
use Rattle.paper_board.specs.Paper.Limits.{job_limit, tally_limit, empty_board}
use Rattle.paper_board.specs.Paper.Parts.{of_parts, empty_books, with_tally}
use Rattle.paper_board.specs.Paper.Tests.{live, valid, between, implies}
use Rattle.paper_board.specs.BoardTests.WithinLimits.{all, is_zero, fits, is_zero_row, full, shape, holds_job, holds_nothing, joinable, agrees, within_limits}
use Rattle.paper_board.specs.Paper.View.{view}
use Rattle.paper_rules.specs.Order.Empty.{within_empty_books, idle_obeys}
use Rattle.paper_board.proofs.LimitsDecided.{limits_yes}
use Rattle.paper_rules.specs.Update.Updates.{exclude, tighten, update, ◌and_then◌}
use Rattle.paper_closure.specs.Find.{guard, ◌or_else◌, first, any, beyond, too_late, joined, pushers, pushed, push, next, find}
use Rattle.paper_closure.specs.Closure.{close, closure}
use Rattle.paper_closure.specs.Passes.{nothing_left, passes}
use Rattle.paper_closure.proofs.PassesClosed.{obeys_passes}
use Rattle.paper_entries.specs.Paper.Entry.{cut, addition, other}
use Rattle.paper_entries.specs.Paper.Checks.{first_refusal}
use Rattle.paper_entries.specs.Paper.Enter.{update_all, raw, closure_with, enter}
use Rattle.paper_entries.specs.Paper.Looking
use Rattle.paper_plans.specs.Paper.Planner
use Rattle.paper_requests.specs.RefusalLaws.{refused_table}
use Rattle.paper_requests.specs.SampleEntries.{job, arrow, marked, cut_to}
use Rattle.paper_requests.specs.Samples.{computed_day}
use Rattle.paper_requests.specs.Paper.Requests.{Request, entry, row, pair, plan, Sort, an-addition, an-arc, a-mark, a-cut, a-row, a_pair, a-plan, sort_of, refusals_of, refusal, Met}

-- ---- the boards

abbrev all_invalid : Board
all_invalid =
    let zeros = replicate job_limit (pos 0) in
    of_parts job_limit zeros zeros zeros (replicate job_limit 2) (replicate job_limit 0) (replicate job_limit 0) empty_books

-- it passes check 0, since no job on it is live
full_passes : passes all_invalid ≡ true
unfolding eq_z bit all implies is_zero is_zero_row full shape holds_job holds_nothing joinable agrees within_limits live
full_passes =
    obeys_passes all_invalid (limits_yes all_invalid refl) within_empty_books (idle_obeys (view all_invalid) λ j (l, m). m (get_or-replicate job_limit j 2 0 l))

abbrev over_tallied : Board
over_tallied = empty_board (with_tally empty_books (suc tally_limit))

-- ---- the calls

-- each number of a list has such a call
infixr 20 ◌also◌
data EachMet (s : Sort) : List ℕ → Type 0 where
  done : EachMet s []
  ◌also◌ : {r : ℕ} {rs : List ℕ} → Met s r → EachMet s rs → EachMet s (r ∷ rs)

meets : (b : Board) (q : Request) (r : ℕ) → refusal b q ≡ some r → Met (sort_of q) r
meets b q r e = record { board = b; request = q; sort = refl; refused = e }

table : (s : Sort) → EachMet s (refusals_of s)
unfolding eq_z bit with without union difference singleton sum all implies between is_zero fits is_zero_row full shape holds_job holds_nothing joinable agrees within_limits live valid exclude tighten update ◌and_then◌ guard ◌or_else◌ first any beyond too_late joined pushers pushed push next find close closure nothing_left passes first_refusal update_all raw closure_with enter Looking.row Looking.pair count Planner.plan
table an-addition =
    meets over_tallied (entry (job 10 0 100)) 0 refl
    also meets all_invalid (entry (job 10 0 100)) 1 (refused_table all_invalid (entry (job 10 0 100)) Refused.Full full_passes refl)
    also meets computed_day (entry (job 0 0 100)) 4 refl
    also meets computed_day (entry (job 10 0 500001)) 5 refl
    also meets computed_day (entry (job 10 1 0)) 6 refl
    also meets computed_day (entry (addition (pos 10) (pos 0) (pos 100) (pos 2))) 7 refl
    also meets computed_day (entry (job 10 0 9)) 8 refl
    also done
table an-arc =
    meets over_tallied (entry (arrow 0 1)) 0 refl
    also meets computed_day (entry (arrow 0 4)) 2 refl
    also meets computed_day (entry (arrow 0 0)) 3 refl
    also meets computed_day (entry (arrow 1 0)) 8 refl
    also done
table a-mark =
    meets over_tallied (entry (marked 0 1)) 0 refl
    also meets computed_day (entry (marked 4 1)) 2 refl
    also meets computed_day (entry (marked 0 0)) 7 refl
    also meets computed_day (entry (marked 0 2)) 8 refl
    also done
table a-cut =
    meets over_tallied (entry (cut_to 0 0 100)) 0 refl
    also meets computed_day (entry (other (cut (negsuc 0) (pos 0) (pos 100)))) 2 refl
    also meets computed_day (entry (other (cut (pos 0) (negsuc 500000) (pos 100)))) 5 refl
    also meets computed_day (entry (cut_to 0 1 0)) 6 refl
    also meets computed_day (entry (cut_to 0 0 9)) 8 refl
    also done
table a-row = meets over_tallied (row (pos 0)) 0 refl also meets computed_day (row (pos 4)) 2 refl also done
table a_pair =
    meets over_tallied (pair (pos 0) (pos 1)) 0 refl
    also meets computed_day (pair (pos 0) (pos 4)) 2 refl
    also meets computed_day (pair (pos 1) (pos 1)) 3 refl
    also done
table a-plan = meets over_tallied (plan (pos 0)) 0 refl also meets computed_day (plan (negsuc 0)) 9 refl also done

of_each : (s : Sort) (rs : List ℕ) → EachMet s rs → (r : ℕ) → Memᴰ r rs → Met s r
of_each s _ done r m = absurd (Memᴰ.not-nil m)
of_each s _ (h also hs) r m = ⊎_elim (λ q. subst⁻¹ (Met s) q h) (of_each s _ hs r) (Memᴰ.cases_cons m)

pub witnesses : (s : Sort) (r : ℕ) → Memᴰ r (refusals_of s) → Met s r
witnesses s r = of_each s (refusals_of s) (table s) r
