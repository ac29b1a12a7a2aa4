-- What the planner tries and hands back: the valid jobs, each once, and a plan, a word with a list of starts, that reads as the
-- placing of the jobs placed.
use Rattle.std.specs.Prelude.{◌≡◌, true, ◌&&◌, ℕ, ◌+◌, ◌<◌, ◌≤◌, eqb, ltb, ℤ, replicate, Ok}
use Rattle.std.proofs.Math.Path.{sym}
use Rattle.std.proofs.Common.{◌∙◌, arith, get_or-set_same, lt-ltb, le-leb}
use Rattle.std.proofs.Math.Bool.{or_comm}
use mathlib.Core.List.{List, [], ◌∷◌}
use Rattle.std.proofs.Math.Option.{none}
use Rattle.std.proofs.Math.Decide.{ℕ_discrete, dec_lt}
use Rattle.std.proofs.Math.IntN.{pos}
use Rattle.std.proofs.Math.ListN.{length, get_or, length-set, length-replicate, get_or-replicate}
use Rattle.std.proofs.Math.Seq.{get_or-set_other}
use Rattle.std.proofs.lemmas.Bool.{lt-leb, not-false}
use Rattle.ground_sets.specs.Bit.{bit}
use Rattle.ground_sets.specs.BitLaws.{bit_zero, bit_with}
use Rattle.ground_arithmetic.specs.Bools.{and_parts, and_both, same_tests}
use Rattle.paper_board.specs.Paper.View.{View, view}
use Rattle.paper_board.specs.Paper.Limits.{job_limit}
use Rattle.paper_board.specs.Paper.Tests.{valid, between}
use Rattle.paper_board.specs.BoardTests.Live.{valid_yes}
use Rattle.paper_board.proofs.LimitsDecided.{past, decides_between}
use Rattle.paper_board.specs.declared.Board.{Board}
use Rattle.paper_closure.specs.Passes.{passes}
use Rattle.paper_entries.specs.Paper.Entry.{number}
use Rattle.paper_entries.specs.Paper.Checks.{budget_limit, budget_check, first_refusal}
use Rattle.paper_entries.specs.CheckLines.{no_line, passes_on, passed}
use Rattle.paper_plans.specs.declared.TriesEnd.TheVariants as Ends
use Rattle.paper_plans.specs.Paper.Answers.{PlanAnswer}
use Rattle.paper_plans.specs.Paper.Lists.{range, among}
use Rattle.paper_plans.specs.Paper.Tries
use Rattle.paper_plans.specs.Paper.Tries.{Ending, found, add, start_after, start_in, plan_of, tries}
use Rattle.paper_plans.specs.Paper.Planner.{valid_jobs, placed_word, start_list, unplanned, with_plan, planned_within, plan}
use Rattle.paper_plans.specs.Paper.PlanReply.{placing_of}
use Rattle.paper_plans.specs.Paper.ReplyWithin.{IsBudget}
use Rattle.paper_plans.specs.ListLaws.{Distinct, among_first, among_later, keep_among, below_among, keep_distinct, range_distinct}
use Rattle.paper_plans.specs.SearchReaches.{start_first, start_rest}

-- ---- the jobs tried

pub valid_distinct : (v : View) → Distinct (valid_jobs v)
valid_distinct v = keep_distinct (valid v) (range 0 v.jobs) (range_distinct 0 v.jobs)

pub valid_among : (v : View) (k : ℕ) → among (valid_jobs v) k ≡ valid v k
valid_among v k =
    keep_among (valid v) (range 0 v.jobs) k
    ∙ rw (below_among v.jobs k)
    (same_tests (valid v k && ltb k v.jobs) (valid v k)
    (λ e. (and_parts (valid v k) (ltb k v.jobs) e).0)
    (λ e. and_both (valid v k) (ltb k v.jobs) e (lt-ltb k v.jobs (valid_yes v k e).0)))

-- ---- the plan handed back

pub placed_bit : (ps : List ℕ) (k : ℕ) → bit (placed_word ps) k ≡ among ps k
unfolding placed_word among
placed_bit [] k = bit_zero k
placed_bit (j ∷ ps) k = bit_with (placed_word ps) j k ∙ rw (placed_bit ps k) (or_comm (among ps k) (eqb j k))

module _ (v : View) where
  starts_length : (ps : List ℕ) → length (start_list v ps) ≡ job_limit
  unfolding start_list
  starts_length [] = length-replicate job_limit (pos 0)
  starts_length (j ∷ ps) = length-set (start_list v ps) j (start_after v ps j) ∙ starts_length ps

  start_read : (ps : List ℕ) → ((k : ℕ) → among ps k ≡ true → k < job_limit) → (k : ℕ)
      → get_or (start_list v ps) k (pos 0) ≡ start_in v ps k
  unfolding start_list start_in
  start_read [] small k = go (dec_lt k job_limit)
    where
      go : Dec (k < job_limit) → get_or (replicate job_limit (pos 0)) k (pos 0) ≡ pos 0
      go (yes l) = get_or-replicate job_limit k (pos 0) (pos 0) l
      go (no n) = past (replicate job_limit (pos 0)) (pos 0) (length-replicate job_limit (pos 0)) k (omega arith)
  start_read (j ∷ ps) small k = go (ℕ_discrete j k) (start_read ps (λ i a. small i (among_later j ps i a)) k)
    where
      go : Dec (j ≡ k) → get_or (start_list v ps) k (pos 0) ≡ start_in v ps k → get_or (start_list v (j ∷ ps)) k (pos 0) ≡ start_in v (j ∷ ps) k
      go (yes d) ih =
          let inside : j < length (start_list v ps) = omega (arith, small j (among_first j ps), starts_length ps) in
          rw (← d) (get_or-set_same (start_list v ps) j (start_after v ps j) (pos 0) inside ∙ sym (start_first v j ps))
      go (no ne) ih =
          get_or-set_other (start_list v ps) j k (start_after v ps j) (pos 0) (λ d. ne (sym d)) ∙ ih ∙ sym (start_rest v j ps k ne)

  pub plan_placing : (a : PlanAnswer) (ps : List ℕ) → ((k : ℕ) → among ps k ≡ true → k < job_limit)
      → plan_of v ps ≡ placing_of (with_plan v a ps)
  plan_placing a ps small i = record { placed = λ k. sym (placed_bit ps k) i; start = λ k. sym (start_read ps small k) i }

-- ---- the answer

-- the answer with a budget that is enough, and with one that is not
module _ (v : View) (budget t : ℕ) where
  pub found_in_budget : (ps : List ℕ) → t ≤ budget → planned_within v budget (found t ps) ≡ with_plan v (Ok (Ends.Found t)) ps
  found_in_budget ps l = rw (le-leb t budget l)

  pub none_in_budget : t ≤ budget → planned_within v budget (Tries.none t) ≡ unplanned (Ok (Ends.None t))
  none_in_budget l = rw (le-leb t budget l)

pub beyond_budget : (v : View) (budget : ℕ) (o : Ending) → planned_within v budget (add (budget + 1) o) ≡ unplanned (Ok (Ends.Spent budget))
unfolding add
beyond_budget v budget (found u ps) = rw (lt-leb (budget + 1 + u) budget (omega arith))
beyond_budget v budget (Tries.none u) = rw (lt-leb (budget + 1 + u) budget (omega arith))

-- a budget that the check lets pass
pub budget_within : (z : ℤ) → first_refusal (budget_check z ∷ []) ≡ none → IsBudget z
budget_within z e = (decides_between (pos 0) budget_limit z).yes (not-false (between (pos 0) budget_limit z) (passed (budget_check z) [] e).0)

pub plan_tries : (b : Board) (z : ℤ) → passes b ≡ true → between (pos 0) budget_limit z ≡ true
    → plan b z ≡ planned_within (view b) (number z) (tries (view b) (valid_jobs (view b)))
unfolding plan
plan_tries b z handed_in e = rw (plan, handed_in, ← passes_on (budget_check z) [] (rw e), ← no_line)
