-- How the planner's loop ends: the empty list is exhausted, a try beyond the budget is due, or all valid jobs are placed. Each time
-- the answer is the one that the tries give.
use Rattle.std.specs.Prelude.{◌≡◌, ◌≢◌, true, ℕ, ◌+◌, ◌<◌, ◌≤◌, ℤ, length, Ok}
use Rattle.std.proofs.Math.Path.{refl, ap}
use Rattle.std.proofs.Common.{sym, ◌∙◌, arith}
use Rattle.std.proofs.Math.Bool.{false}
use mathlib.Core.List.{List, [], ◌∷◌}
use Rattle.ground_sets.specs.Bit.{bit, width}
use Rattle.ground_walks.specs.Takes.{Next}
use Rattle.ground_sets.specs.BitLaws.{bit_zero, bit_ext}
use Rattle.ground_walks.specs.Walk.{trailing_lowest, takes}
use Rattle.ground_arithmetic.specs.Bools.{is_true, refuted, same_tests}
use Rattle.paper_board.specs.declared.Board.{Board}
use Rattle.paper_board.specs.Paper.View.{view}
use Rattle.paper_board.specs.Paper.Limits.{Within, job_limit}
use Rattle.paper_board.specs.Paper.Tests.{valid}
use Rattle.paper_plans.specs.declared.TriesEnd.TheVariants as Ends
use Rattle.paper_plans.specs.Paper.Lists.{among, range}
use Rattle.paper_plans.specs.Paper.Tries.{none, add}
use Rattle.paper_plans.specs.Paper.Planner.{placed_word, start_list, unplanned, planned_within}
use Rattle.paper_plans.specs.ListLaws.{none_among, kept_at_most, range_length}
use Rattle.paper_plans.proofs.PlanLaws.{placed_bit, found_in_budget, none_in_budget, beyond_budget}
use Rattle.paper_plans.specs.SearchReaches.{last_and_before}
use Rattle.call_placements.specs.declared.stack.Placed.{Placed}
use Rattle.call_placements.specs.Stack.{jobs_of, members, back, tried_all, try_due, all_found}
use Rattle.call_placements.specs.Waiting.{order, waiting_fits, waiting_count, waiting_members, no_members, some_waits, least_first}
use Rattle.call_placements.specs.PlannerState.{Placements, ending, PlannerState}

-- the jobs of the stack are valid
stacked : (b : Board) (placed : List Placed) → Placements b placed → (k : ℕ) → among (jobs_of placed) k ≡ true → valid (view b) k ≡ true
stacked b [] p k a = absurd (refuted (none_among k) a)
stacked b (one ∷ below) p k a =
    last_and_before (view b) (λ i z. valid (view b) i ≡ true) one.job (jobs_of below) p.0.job.0 (stacked b below p.1) k a

module _ (b : Board) (h : Within b) (placed : List Placed) (w left : ℕ) (free : ℤ) (t budget : ℕ)
    (s : PlannerState b placed w left free t budget) where
  -- no more jobs are placed than the board has places
  pub deep : length placed + waiting_count b (jobs_of placed) ≤ job_limit
  deep = omega (arith, s.counted, kept_at_most (valid (view b)) (range 0 b.jobs), range_length 0 b.jobs, h.limits.jobs)

  -- a job more has its place
  pub room : w ≢ 0 → length placed < job_limit
  room waits = omega (arith, deep, (some_waits b w _ s.waiting waits).1)

  pub exhausted : w ≢ 0 → left ≡ 0 → placed ≡ [] → unplanned (Ok (Ends.None t)) ≡ planned_within (view b) budget (ending b)
  unfolding back add
  exhausted waits none_left empty =
      let s' = rw (none_left, empty) at s in
      let (n, count) = some_waits b w [] s'.waiting waits in
      let now : ending b ≡ none (t + 0) = tried_all (view b) (order b) (ending b) t n [] 0 (none 0) (rw count at s'.so_far) (no_members b) in
      let whole : ending b ≡ none t = now ∙ ap none (omega arith) in
      rw whole (sym (none_in_budget (view b) budget t s.affordable))

  pub overspent : w ≢ 0 → left ≢ 0 → t ≡ budget → unplanned (Ok (Ends.Spent budget)) ≡ planned_within (view b) budget (ending b)
  unfolding Next
  overspent waits some all =
      let ps = jobs_of placed in
      let fits = waiting_fits b h left ps s.untried in
      let taken = takes width false left _ _ fits (trailing_lowest width left some fits) refl in
      let (n, count) = some_waits b w ps s.waiting waits in
      let now = try_due (view b) (order b) (ending b) t n ps left _ (rw count at s.so_far) _ _ (least_first b ps s.untried taken) in
      rw (now, all) (sym (beyond_budget (view b) budget _))

  module _ (empty : w ≡ 0) where
    -- the jobs placed are the valid ones
    placed_valid : (k : ℕ) → among (jobs_of placed) k ≡ valid (view b) k
    placed_valid k =
        same_tests _ _ (stacked b placed s.placements k) λ e.
        is_true _ λ out. refuted (bit_zero k) (rw empty at ((s.waiting k).show (e, out)))

    pub all_are_placed : (valids : ℕ) → ((k : ℕ) → bit valids k ≡ valid (view b) k)
        → record { answer = Ok (Ends.Found t); placed = valids; starts = start_list (view b) (jobs_of placed) } ≡ planned_within (view b) budget (ending b)
    all_are_placed valids valid-word =
        let ps = jobs_of placed in
        let none_waits : waiting_count b ps ≡ 0 = ap length (sym (waiting_members b w ps s.waiting) ∙ ap (members (view b)) empty ∙ no_members b) in
        let whole = all_found (view b) (order b) (ending b) t ps left _ (rw none_waits at s.so_far) in
        let word : valids ≡ placed_word ps = bit_ext valids (placed_word ps) λ k. valid-word k ∙ sym (placed_valid k) ∙ sym (placed_bit ps k) in
        rw (whole, word) (sym (found_in_budget (view b) budget t ps s.affordable))
