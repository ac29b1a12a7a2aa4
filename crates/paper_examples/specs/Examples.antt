-- "Twelve marked examples": M1 to M12, the paper's whole case, and what it says of cuts, marks and tries, as one table,
-- computed as a whole through `enter`, `row`, `pair` and `plan`.
use Rattle.std.specs.Prelude.{◌≡◌, refl, Bool, true, false, cond, ◌&&◌, List, [], ◌∷◌, ◌++◌, ℕ, eqb, ℤ, pos, negsuc, length}
use Rattle.std.proofs.Math.Option.{Option, none, some}
use Rattle.ground_sets.specs.Bit.{bit, with, without, union, difference, singleton}
use Rattle.ground_arithmetic.specs.Linear.{eq_z}
use Rattle.ground_arithmetic.specs.Sum.{sum, count}
use Rattle.paper_board.specs.declared.Board.{Board}
use Rattle.paper_board.specs.Paper.Limits.{empty_board}
use Rattle.paper_board.specs.Paper.Parts.{empty_books}
use Rattle.paper_board.specs.Paper.Tests.{implies, between, live, valid}
use Rattle.paper_board.specs.BoardTests.WithinLimits.{all, is_zero, fits, is_zero_row, full, shape, holds_job, holds_nothing, joinable, agrees, within_limits}
use Rattle.paper_rules.specs.Paper.Schedules.{Placing}
use Rattle.paper_board.specs.Paper.View.{row_of}
use Rattle.paper_rules.specs.Update.Updates.{exclude, tighten, update, ◌and_then◌}
use Rattle.paper_closure.specs.Find.{guard, ◌or_else◌, first, any, beyond, too_late, joined, pushers, pushed, push, next, find}
use Rattle.paper_closure.specs.Closure.{close, closure}
use Rattle.paper_closure.specs.Passes.{nothing_left, passes}
use Rattle.paper_entries.specs.Paper.Replies.{reply_of, RowReply, shows_row, no_row, row_reply_of, PairReply, shows_pair, no_pair, pair_reply_of}
use Rattle.paper_entries.specs.Paper.Entry.{Entry}
use Rattle.paper_entries.specs.Paper.Checks.{first_refusal}
use Rattle.paper_entries.specs.Paper.Enter.{update_all, raw, closure_with, enter}
use Rattle.paper_entries.specs.Paper.Looking.{row, pair}
use Rattle.paper_plans.specs.Paper.Lists.{range, keep, every, among}
use Rattle.paper_plans.specs.Paper.Tries
use Rattle.paper_plans.specs.Paper.Tries.{add, start_after, from, search}
use Rattle.paper_plans.specs.Paper.Planner.{placed_word, start_list, plan}
use Rattle.paper_plans.specs.Paper.PlanReply.{PlanReply, plan_found, plan_none, plan_spent, no_plan, plan_reply_of}
use Rattle.paper_requests.specs.Paper.Requests.{entry_refusal, plan_refusal}
use Rattle.paper_requests.specs.SampleEntries.{job, undecided, arrow, marked, cut_to}

-- A line of an example: an entry that is accepted, or refused with a number; or something said of the board after it.
pub data ExampleLine : Type 0 where
  enters : Entry → ExampleLine
  refuses : ℕ → Entry → ExampleLine
  earliest_is : ℕ → ℕ → ExampleLine
  mark_is : ℕ → ℕ → ExampleLine
  pair_is : ℕ → ℕ → ℕ → ExampleLine
  gap_is : ℕ → ℕ → ℤ → ExampleLine
  row_is : ℕ → ℕ → ℤ → ℤ → ℕ → ℕ → ExampleLine
  tally_is : ℕ → ExampleLine
  -- with a budget: found after so many tries, with the jobs placed and their starts; none after so many; spent; refused
  plan_finds : ℕ → ℕ → List (ℕ × ℤ) → ExampleLine
  plan_fails : ℕ → ℕ → ExampleLine
  plan_spends : ℕ → ExampleLine
  plan_refuses : ℕ → ℤ → ExampleLine

abbrev pub gives : Option ℕ → Option ℕ → Bool
gives none none = true
gives none (some m) = false
gives (some n) none = false
gives (some n) (some m) = eqb n m

abbrev arcs_of : PairReply → Option ℕ
arcs_of (shows_pair arcs gap) = some arcs
arcs_of (no_pair r) = none

abbrev gap_of : PairReply → ℤ → Bool
gap_of (shows_pair arcs gap) g = eq_z gap g
gap_of (no_pair r) g = false

-- mark, E, D, the set before and the set after
abbrev row_gives : RowReply → ℕ → ℤ → ℤ → ℕ → ℕ → Bool
row_gives (shows_row m' e' d' b' a') m e d b a =
    eqb m' m && eq_z e' e && eq_z d' d && eqb b' b && eqb a' a
row_gives (no_row r) m e d b a = false

-- the jobs of the list are placed, with these starts, and no other of n jobs is
abbrev pub starts : Placing → List (ℕ × ℤ) → Bool
starts p [] = true
starts p ((j, s) ∷ js) = p.placed j && eq_z (p.start j) s && starts p js

abbrev pub places : Placing → ℕ → List (ℕ × ℤ) → Bool
places p n js = starts p js && eqb (count n λ k. cond (p.placed k) 1 0) (length js)

abbrev found_is : PlanReply → ℕ → ℕ → List (ℕ × ℤ) → Bool
found_is (plan_found t p) n t' js = eqb t t' && places p n js
found_is (plan_none t) n t' js = false
found_is (plan_spent z) n t' js = false
found_is (no_plan r) n t' js = false

abbrev none_is : PlanReply → ℕ → Bool
none_is (plan_none t) t' = eqb t t'
none_is (plan_found t p) t' = false
none_is (plan_spent z) t' = false
none_is (no_plan r) t' = false

abbrev spent_is : PlanReply → ℕ → Bool
spent_is (plan_spent z) z' = eqb z z'
spent_is (plan_found t p) z' = false
spent_is (plan_none t) z' = false
spent_is (no_plan r) z' = false

-- the lines of an example are true from board b on
abbrev true_from : Board → List ExampleLine → Bool
true_from b [] = true
true_from b (enters e ∷ ls) = let o = enter b e in gives (entry_refusal (reply_of o.answer)) none && true_from o.board ls
true_from b (refuses n e ∷ ls) = let o = enter b e in gives (entry_refusal (reply_of o.answer)) (some n) && true_from o.board ls
true_from b (earliest_is j e ∷ ls) = eq_z (row_of b j).earliest (pos e) && true_from b ls
true_from b (mark_is j m ∷ ls) = eqb (row_of b j).mark m && true_from b ls
true_from b (pair_is x y p ∷ ls) = gives (arcs_of (pair_reply_of (pair b (pos x) (pos y)))) (some p) && true_from b ls
true_from b (gap_is x y g ∷ ls) = gap_of (pair_reply_of (pair b (pos x) (pos y))) g && true_from b ls
true_from b (row_is j m e d p q ∷ ls) = row_gives (row_reply_of (row b (pos j))) m e d p q && true_from b ls
true_from b (tally_is n ∷ ls) = eqb b.books.tally n && true_from b ls
true_from b (plan_finds z t js ∷ ls) = found_is (plan_reply_of (plan b (pos z))) b.jobs t js && true_from b ls
true_from b (plan_fails z t ∷ ls) = none_is (plan_reply_of (plan b (pos z))) t && true_from b ls
true_from b (plan_spends z ∷ ls) = spent_is (plan_reply_of (plan b (pos z))) z && true_from b ls
true_from b (plan_refuses n z ∷ ls) = gives (plan_refusal (plan_reply_of (plan b z))) (some n) && true_from b ls

abbrev all_true : List (List ExampleLine) → Bool
all_true [] = true
all_true (x ∷ xs) = true_from (empty_board empty_books) x && all_true xs

abbrev pub M1 : List ExampleLine
M1 = refuses 4 (job 0 0 100) ∷ []

abbrev pub M2 : List ExampleLine
M2 = enters (job 10000 0 10000) ∷ []

abbrev pub M3 : List ExampleLine
M3 = enters (undecided 10000 0 9999) ∷ mark_is 0 2 ∷ []

abbrev pub M4 : List ExampleLine
M4 = refuses 8 (job 10000 0 9999) ∷ []

abbrev pub M5 : List ExampleLine
M5 =
    enters (job 10 0 100) ∷ enters (job 20 0 100) ∷ enters (job 5 0 100)
    ∷ enters (arrow 0 2) ∷ enters (arrow 1 2) ∷ earliest_is 2 30 ∷ []

abbrev pub M6 : List ExampleLine
M6 =
    enters (job 5 0 100) ∷ enters (job 10 50 100) ∷ enters (job 5 0 100)
    ∷ enters (arrow 0 2) ∷ enters (arrow 1 2) ∷ earliest_is 2 60 ∷ []

abbrev pub M7 : List ExampleLine
M7 =
    enters (job 5 0 100) ∷ enters (undecided 10 50 100) ∷ enters (job 5 0 100)
    ∷ enters (arrow 0 2) ∷ enters (arrow 1 2) ∷ earliest_is 2 5 ∷ []

abbrev pub M8 : List ExampleLine
M8 = enters (job 40 0 100) ∷ enters (job 20 10 60) ∷ pair_is 0 1 0 ∷ []

abbrev pub M9 : List ExampleLine
M9 = enters (job 40 0 100) ∷ enters (job 20 10 59) ∷ pair_is 0 1 2 ∷ []

abbrev pub M10 : List ExampleLine
M10 =
    enters (job 5 0 100) ∷ enters (undecided 5 0 100) ∷ enters (job 5 0 100)
    ∷ enters (arrow 0 1) ∷ enters (arrow 1 2) ∷ pair_is 0 2 0 ∷ []

abbrev pub M11 : List ExampleLine
M11 = M10 ++ enters (marked 1 1) ∷ pair_is 0 2 1 ∷ []

abbrev pub M12 : List ExampleLine
M12 =
    enters (undecided 5 0 100) ∷ enters (undecided 5 0 100) ∷ enters (arrow 0 1) ∷ enters (arrow 1 0)
    ∷ pair_is 0 1 3 ∷ enters (marked 0 1) ∷ mark_is 1 2 ∷ []

-- "Whole case"
abbrev pub whole_case : List ExampleLine
whole_case =
    enters (job 30 0 100) ∷ enters (undecided 40 0 100) ∷ enters (job 20 10 60) ∷ enters (arrow 0 2)
    ∷ row_is 1 0 (pos 50) (pos 100) 5 0 ∷ pair_is 2 1 1 ∷ gap_is 2 1 (negsuc 9)
    ∷ plan_finds 100 2 ((0, pos 0) ∷ (2, pos 30) ∷ [])
    ∷ enters (cut_to 1 0 85) ∷ row_is 1 2 (pos 0) (pos 0) 0 0
    ∷ refuses 8 (marked 1 1) ∷ tally_is 1 ∷ []

-- "the later E and the earlier D hold"; a job marked 2 holds 0 and stays invalid; a pair with an invalid job is 0 and 0
abbrev pub cuts_and_marks : List ExampleLine
cuts_and_marks =
    enters (job 10 0 100) ∷ enters (undecided 5 0 100) ∷ gap_is 0 1 (negsuc 99)
    ∷ enters (cut_to 0 20 90) ∷ row_is 0 1 (pos 20) (pos 90) 0 0
    ∷ enters (cut_to 0 10 80) ∷ row_is 0 1 (pos 20) (pos 80) 0 0
    ∷ enters (cut_to 0 30 90) ∷ row_is 0 1 (pos 30) (pos 80) 0 0
    ∷ enters (marked 1 2) ∷ row_is 1 2 (pos 0) (pos 0) 0 0 ∷ pair_is 0 1 0 ∷ gap_is 0 1 (pos 0)
    ∷ refuses 8 (marked 1 1) ∷ refuses 8 (marked 0 2) ∷ tally_is 2 ∷ []

-- "Without valid jobs: found, T 0"; "the later of E and the end of the job placed before"; a budget from both sides of its limits
abbrev pub plans : List ExampleLine
plans =
    plan_finds 0 0 [] ∷ enters (undecided 5 0 100) ∷ plan_finds 0 0 []
    ∷ enters (job 10 0 100) ∷ enters (job 5 30 100) ∷ plan_finds 2 2 ((1, pos 0) ∷ (2, pos 30) ∷ []) ∷ plan_spends 1 ∷ plan_spends 0
    ∷ plan_refuses 9 (negsuc 0) ∷ plan_refuses 9 (pos 1000001) ∷ plan_finds 1000000 2 ((1, pos 0) ∷ (2, pos 30) ∷ []) ∷ []

-- "or E where none is": in M6 the second job waits for its E, and the third for the second
abbrev pub plan_m6 : List ExampleLine
plan_m6 = M6 ++ plan_finds 100 3 ((0, pos 0) ∷ (1, pos 50) ∷ (2, pos 60) ∷ []) ∷ []

-- "every valid job with an arc to it is placed": job 0 is tried in vain, and then job 1 and job 0 are placed
abbrev pub plan_ready : List ExampleLine
plan_ready = enters (job 10 0 100) ∷ enters (job 10 0 15) ∷ pair_is 0 1 2 ∷ plan_finds 3 3 ((0, pos 10) ∷ (1, pos 0) ∷ []) ∷ plan_spends 2 ∷ []

-- three jobs of 10 minutes in 25: the board accepts each, and the tries find none
abbrev pub plan_none_found : List ExampleLine
plan_none_found =
    enters (job 10 0 25) ∷ enters (job 10 0 25) ∷ enters (job 10 0 25) ∷ plan_fails 15 15 ∷ plan_fails 1000000 15 ∷ plan_spends 14 ∷ []

abbrev pub table : List (List ExampleLine)
table = M1 ∷ M2 ∷ M3 ∷ M4 ∷ M5 ∷ M6 ∷ M7 ∷ M8 ∷ M9 ∷ M10 ∷ M11 ∷ M12 ∷ whole_case ∷ cuts_and_marks ∷ plans ∷ plan_m6 ∷ plan_ready ∷ plan_none_found ∷ []

-- every line of every example is true
pub examples_hold : all_true table ≡ true
unfolding eq_z bit with without union difference singleton sum all implies between is_zero fits is_zero_row full shape holds_job holds_nothing joinable agrees within_limits live valid exclude tighten update ◌and_then◌ guard ◌or_else◌ first any beyond too_late joined pushers pushed push next find close closure nothing_left passes first_refusal update_all raw closure_with enter row pair count range keep every among add Tries.◌or_else◌ start_after from search placed_word start_list plan
examples_hold = refl
