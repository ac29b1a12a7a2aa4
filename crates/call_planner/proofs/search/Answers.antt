-- `call_planner::search` meets its contract: each move of the loop keeps its state, and each end gives the answer of the tries. Assumes nothing.
use Rattle.std.proofs.Common.{◌≡◌, ◌<◌, sym, ap, ◌∙◌, List, ℕ, ℤ, ◌+ℤ◌, SFits, w32, arith, rules}
use Rattle.std.proofs.Math.Facts.{to_z-of_z}
use Rattle.ground_sets.specs.Bit.{bit}
use Rattle.ground_arithmetic.specs.Time.{greater}
use Rattle.paper_board.specs.declared.Board.{Board}
use Rattle.paper_board.specs.Paper.Limits.{Within, job_limit}
use Rattle.paper_rules.specs.Paper.Rules.{E, L}
use Rattle.paper_board.specs.Paper.View.{view}
use Rattle.paper_board.specs.BoardTests.Live.{valid_yes}
use Rattle.paper_board.specs.BoardTests.Ranges.{ranges}
use Rattle.engine_sums.specs.SumLaws.{time_fits}
use Rattle.engine_marks.specs.Marked.{bit_valid}
use Rattle.paper_plans.specs.Paper.Tries.{start_after}
use Rattle.call_placements.specs.Stack.{jobs_of}
use Rattle.call_placements.specs.Waiting.{Waiting}
use Rattle.call_placements.specs.PlannerState.{FreeFrom, placements_end, try_test}
use Rattle.call_planner.specs.Moves.{at_start, taken_back, tried_in_vain, job_placed}
use Rattle.call_planner.specs.Results.{room, exhausted, overspent, all_are_placed}
use Rattle.call_planner.proofs.search.Goals as goal

-- a job that is still to be tried is on the board
job_fits : (b : Board) (ps : List ℕ) (j : ℕ) → Within b → Waiting b ps j → j < job_limit
job_fits b ps j h waits = omega (arith, (valid_yes (view b) j waits.0).0, h.limits.jobs)

-- when the job tried would end
finish_is : (b : Board) (ps : List ℕ) (j : ℕ) (start free finish : ℤ) → FreeFrom b ps free → start ≡ greater (E (view b) j) free
    → finish ≡ start +ℤ L (view b) j → finish ≡ start_after (view b) ps j +ℤ L (view b) j
finish_is b ps j start free finish f e is = is ∙ ap (λ (z : ℤ). z +ℤ L (view b) j) (e ∙ sym (f.start j))

pub loop-unplaced-init : goal.loop-unplaced-init
loop-unplaced-init c =
    let b = c.args.board.now in
    let valid = λ (k : ℕ). ap (λ (x : ℕ). bit x k) c.marked-valid.ensures ∙ bit_valid b k in
    (c.of-left.ensures.1, rw (c.empty-stack.ensures, c.of-left.ensures.0) (at_start b c.requires c.marked-valid.result valid c.args.budget))

pub returns-in_default-pop : goal.returns-in_default-pop
returns-in_default-pop c =
    let nothing = c.in_default.ensures.steps.1.0 in
    c.unplanned.ensures ∙ exhausted _ c.requires _ _ _ _ _ _ c.loop-unplaced.invariant.1 c.loop-unplaced-test.true nothing c.in_default-pop.ensures.0

pub with-unplaced-requires : goal.with-unplaced-requires
with-unplaced-requires c =
    let b = c.args.board.now in
    let s = rw c.in-Some-pop.ensures at c.loop-unplaced.invariant.1.placements in
    omega (arith, (valid_yes (view b) _ s.0.job.0).0, c.requires.limits.jobs)

pub loop-unplaced-preserved-in_default : goal.loop-unplaced-preserved-in_default
loop-unplaced-preserved-in_default c =
    let nothing = c.in_default.ensures.steps.1.0 in
    let s = rw c.in-Some-pop.ensures at c.loop-unplaced.invariant.1 in
    let back = taken_back c.args.board.now c.requires _ _ _ _ _ _ _ s c.loop-unplaced-test.true nothing in
    (c.of-left-in_default.ensures.1, rw (c.with-unplaced.ensures, c.of-left-in_default.ensures.0) (simp (to_z-of_z, time_fits back.dock.time) back))

pub returns-then-tries-budget : goal.returns-then-tries-budget
returns-then-tries-budget c =
    let taken = rw c.loop-unplaced.invariant.0 at c.in-Some.ensures.steps.1 in
    c.unplanned-then-tries-budget.ensures ∙ overspent _ c.requires _ _ _ _ _ _ c.loop-unplaced.invariant.1 c.loop-unplaced-test.true
    (λ e. omega (arith, e, taken.falls)) c.if-tries-budget.true

pub push-requires : goal.push-requires
push-requires c = room c.args.board.now c.requires _ _ _ _ _ _ c.loop-unplaced.invariant.1 c.loop-unplaced-test.true

pub of-end-requires : goal.of-end-requires
of-end-requires c =
    let s = c.loop-unplaced.invariant.1 in
    let taken = rw c.loop-unplaced.invariant.0 at c.in-Some.ensures.steps.1 in
    (c.requires, job_fits _ (jobs_of c.loop-unplaced.stack) _ c.requires (s.untried _ taken.member), s.dock.time)

pub loop-unplaced-preserved-then-places : goal.loop-unplaced-preserved-then-places
loop-unplaced-preserved-then-places c =
    let b = c.args.board.now in
    let h = c.requires in
    let l = c.loop-unplaced in
    let s = l.invariant.1 in
    let taken = rw l.invariant.0 at c.in-Some.ensures.steps.1 in
    let more = c.if-tries-budget.false in
    let finish = finish_is b (jobs_of l.stack) c.in-Some.job _ _ _ s.dock c.of-end.ensures.start c.of-end.ensures.end in
    let ends : SFits w32 c.of-end.result.end = search rules in
    let tested = simp (to_z-of_z, ends, time_fits (ranges b h c.in-Some.job).latest) at c.places.ensures ∙ try_test b h _ _ _ _ s.waiting finish in
    let next = job_placed b h _ _ _ _ _ _ s c.loop-unplaced-test.true taken (omega (arith, more, s.affordable)) _ finish (sym tested ∙ c.if-places.true) in
    (c.of-left-then-places.ensures.1, rw (c.push.ensures, c.of-left-then-places.ensures.0, c.without-unplaced.ensures) (simp (to_z-of_z, ends) next))

pub loop-unplaced-preserved : goal.loop-unplaced-preserved
loop-unplaced-preserved c =
    let b = c.args.board.now in
    let h = c.requires in
    let l = c.loop-unplaced in
    let s = l.invariant.1 in
    let taken = rw l.invariant.0 at c.in-Some.ensures.steps.1 in
    let more = c.if-tries-budget.false in
    let finish = finish_is b (jobs_of l.stack) c.in-Some.job _ _ _ s.dock c.of-end.ensures.start c.of-end.ensures.end in
    let ends : SFits w32 c.of-end.result.end = search rules in
    let tested = simp (to_z-of_z, ends, time_fits (ranges b h c.in-Some.job).latest) at c.places.ensures ∙ try_test b h _ _ _ _ s.waiting finish in
    let next = tried_in_vain b h _ _ _ _ _ _ s c.loop-unplaced-test.true taken (omega (arith, more, s.affordable)) (sym tested ∙ c.if-places.false) in
    (c.in-Some.ensures.steps.0 ∙ l.invariant.0, next)

pub found-requires : goal.found-requires
found-requires c = (c.requires, placements_end c.args.board.now c.loop-unplaced.stack c.loop-unplaced.invariant.1.placements)

pub returns : goal.returns
returns c =
    let valid = λ (k : ℕ). ap (λ (x : ℕ). bit x k) c.marked-valid.ensures ∙ bit_valid c.args.board.now k in
    c.found.ensures ∙ all_are_placed _ c.requires _ _ _ _ _ _ c.loop-unplaced.invariant.1 c.loop-unplaced-test.false c.marked-valid.result valid
