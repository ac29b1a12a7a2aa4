-- The moves of the planner's loop keep its state: the start, a placing taken back, a try that places no job, and one that does.
use Rattle.std.specs.Prelude.{◌≡◌, ◌≢◌, true, false, ◌&&◌, ℤ, ◌+ℤ◌}
use Rattle.std.proofs.Math.Path.{sym, ap}
use Rattle.std.proofs.Common.{◌∙◌}
use mathlib.Core.List.{List, [], ◌∷◌}
use Prim.Native.Nat.{ℕ, ◌+◌, ◌<◌}
use native.Mathlib.Omega.{arith}
use Rattle.std.proofs.Math.ListN.{length}
use Rattle.ground_sets.specs.Bit.{bit, with, without, width}
use Rattle.ground_walks.specs.Takes.{Takes}
use Rattle.ground_arithmetic.specs.Bools.{and_parts}
use Rattle.paper_board.specs.declared.Board.{Board}
use Rattle.paper_board.specs.Paper.View.{view}
use Rattle.paper_board.specs.Paper.Limits.{Within, first_minute}
use Rattle.paper_rules.specs.Paper.Rules.{L}
use Rattle.paper_board.specs.BoardTests.Decides.{holds, restated, retested}
use Rattle.paper_board.specs.Paper.Tests.{valid}
use Rattle.paper_plans.specs.Paper.Tries.{start_after, in_time, ready, search}
use Rattle.paper_plans.specs.ListLaws.{none_among}
use Rattle.paper_plans.specs.EndingLaws.{add_zero, or_else_none}
use Rattle.paper_plans.specs.Unplaced.{none_placed}
use Rattle.call_placements.specs.declared.stack.Placed.{Placed}
use Rattle.call_placements.specs.Stack.{jobs_of, here, back, search_here, tried_all, not_placed, placed as placed_next}
use Rattle.call_placements.specs.Waiting.{order, Waiting, WaitingWord, waiting_members, least_first, no_members, waiting_placed, waiting_back, waiting_count, count_placed, some_waits}
use Rattle.call_placements.specs.PlannerState.{free_at_first, free_after, ending, PlannerState}

module _ (b : Board) (h : Within b) where
  -- at the start no job is placed
  module _ (w : ℕ) (valid-word : (k : ℕ) → bit w k ≡ valid (view b) k) where
    all_wait : WaitingWord b w []
    all_wait k = retested (valid-word k) (restated (holds (valid (view b) k)) (λ e. (e, none_among k)) (λ p. p.0))

    pub at_start : (budget : ℕ) → PlannerState b [] w w first_minute 0 budget
    unfolding back
    at_start budget =
        let v = view b in
        let o = order b in
        let count : length o ≡ waiting_count b [] = ap length (sym (none_placed v o)) in
        let begun : search v o (waiting_count b []) [] ≡ here v o (waiting_count b []) [] w =
        search_here v o (waiting_count b []) [] w (waiting_members b w [] all_wait) in
        record {
          placements = tt;
          waiting = all_wait;
          untried = λ k. (all_wait k).yes;
          dock = free_at_first b h;
          affordable = omega arith;
          counted = omega (arith, count);
          so_far = ap (λ (n : ℕ). search v o n []) count ∙ begun ∙ sym (or_else_none _) ∙ sym (add_zero _);
        }

  -- the last placing is taken back
  module _ (last : Placed) (below : List Placed) (w left : ℕ) (free : ℤ) (t budget : ℕ)
      (s : PlannerState b (last ∷ below) w left free t budget) (waits : w ≢ 0) where
    pub taken_back : left ≡ 0 → PlannerState b below (with w last.job) last.left last.free t budget
    unfolding back
    taken_back none_left =
        let s' = rw none_left at s in
        let (placed, others) = s.placements in
        let ps = jobs_of below in
        let (n, count) = some_waits b w (last.job ∷ ps) s.waiting waits in
        let one_more = count_placed b last.job ps placed.job in
        let now = tried_all (view b) (order b) (ending b) t n (last.job ∷ ps) 0 _ (rw count at s'.so_far) (no_members b) in
        record {
          placements = others;
          waiting = waiting_back b w last.job ps s.waiting placed.job;
          untried = placed.untried;
          dock = placed.dock;
          affordable = s.affordable;
          counted = omega (arith, s.counted, one_more);
          so_far = rw (← one_more, count) now;
        }

  module _ (placed : List Placed) (w left : ℕ) (free : ℤ) (t budget : ℕ)
      (s : PlannerState b placed w left free t budget) (waits : w ≢ 0) where
    -- a try is due: job j comes next
    module _ {j rest : ℕ} (taken : Takes width false left j rest) (affords : t < budget) where
      due : Waiting b (jobs_of placed) j
      due = s.untried j taken.member

      later : (k : ℕ) → bit rest k ≡ true → Waiting b (jobs_of placed) k
      later k m = s.untried k (taken.inside k m)

      -- it places no job
      pub tried_in_vain : (ready (view b) (order b) (jobs_of placed) j && in_time (view b) (jobs_of placed) j) ≡ false
          → PlannerState b placed w rest free (t + 1) budget
      tried_in_vain fails =
          let ps = jobs_of placed in
          let (n, count) = some_waits b w ps s.waiting waits in
          let next = least_first b ps s.untried taken in
          let now = not_placed (view b) (order b) (ending b) t n ps left _ (rw count at s.so_far) j rest next fails in
          record {
            placements = s.placements;
            waiting = s.waiting;
            untried = later;
            dock = s.dock;
            affordable = omega (arith, affords);
            counted = s.counted;
            so_far = rw count now;
          }

      -- it places job j
      pub job_placed : (finish : ℤ) → finish ≡ start_after (view b) (jobs_of placed) j +ℤ L (view b) j
          → (ready (view b) (order b) (jobs_of placed) j && in_time (view b) (jobs_of placed) j) ≡ true
          → PlannerState b (record { job = j; left = rest; free = free } ∷ placed) (without width w j) (without width w j) finish (t + 1) budget
      unfolding back
      job_placed finish finish-is places =
          let v = view b in
          let o = order b in
          let ps = jobs_of placed in
          let w' = without width w j in
          let in_time = (and_parts (ready v o ps j) (in_time v ps j) places).1 in
          let (n, count) = some_waits b w ps s.waiting waits in
          let one_more = count_placed b j ps due in
          let next = least_first b ps s.untried taken in
          let wait : WaitingWord b w' (j ∷ ps) = waiting_placed b h w j ps s.waiting due in
          let counted : waiting_count b (j ∷ ps) ≡ n = omega (arith, one_more, count) in
          let now = placed_next v o (ending b) t n ps left _ (rw count at s.so_far) j rest next places in
          record {
            placements = (record { job = due; untried = later; dock = s.dock; ends = in_time }, s.placements);
            waiting = wait;
            untried = λ k. (wait k).yes;
            dock = rw finish-is (free_after b h j ps free s.dock in_time);
            affordable = omega (arith, affords);
            counted = omega (arith, s.counted, one_more);
            so_far = now ∙ rw (counted, search_here v o n (j ∷ ps) w' (waiting_members b w' (j ∷ ps) wait));
          }
