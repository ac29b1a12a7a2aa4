-- Check 0 from both sides of each limit: boards just inside, which pass, and boards just outside, which don't; and the tally at its
-- limit. One table, computed as a whole.
use Rattle.std.specs.Prelude.{◌≡◌, refl, Bool, true, not, ◌&&◌, List, [], ◌∷◌, ◌++◌, ℕ, ◌+◌, ◌-◌, ◌^◌, eqb, ℤ, pos, negsuc, length, take, replicate, set}
use Rattle.std.proofs.Math.Option.{some}
use Rattle.ground_sets.specs.Bit.{bit}
use Rattle.ground_arithmetic.specs.Linear.{eq_z}
use Rattle.ground_arithmetic.specs.Sum.{sum}
use Rattle.paper_board.specs.declared.Board.{Board}
use Rattle.paper_board.specs.Paper.Limits.{job_limit}
use Rattle.paper_board.specs.Paper.Parts.{of_parts, empty_books, with_tally}
use Rattle.paper_board.specs.Paper.Tests.{live, valid, between, implies}
use Rattle.paper_board.specs.BoardTests.WithinLimits.{all, is_zero, fits, is_zero_row, full, shape, holds_job, holds_nothing, joinable, agrees, within_limits}
use Rattle.paper_rules.specs.Update.Updates.{update, ◌and_then◌}
use Rattle.paper_closure.specs.Find.{guard, ◌or_else◌, first, any, beyond, too_late, joined, pushers, pushed, push, next, find}
use Rattle.paper_closure.specs.Passes.{nothing_left, passes}
use Rattle.paper_entries.specs.Paper.Replies.{reply_of}
use Rattle.paper_entries.specs.Paper.Checks.{first_refusal}
use Rattle.paper_entries.specs.Paper.Enter.{update_all, raw, closure_with, enter}
use Rattle.paper_requests.specs.Paper.Requests.{entry_refusal}
use Rattle.paper_requests.specs.SampleEntries.{marked}
use Rattle.paper_examples.specs.Examples.{gives}

-- ---- boards by their arrays

-- an array whose first places are those of the list
abbrev places : {A : Type 0} → A → List A → List A
places zero l = l ++ replicate (job_limit - length l) zero

abbrev times : List ℤ → List ℤ
times = places (pos 0)

abbrev words : List ℕ → List ℕ
words = places 0

-- a board of one job, and one of two with their arcs
abbrev one : ℕ → ℤ → ℤ → ℤ → Board
one m l e d = of_parts 1 (times (l ∷ [])) (times (e ∷ [])) (times (d ∷ [])) (words (m ∷ [])) (words []) (words []) empty_books

abbrev two : List ℕ → List ℤ → List ℤ → List ℤ → List ℕ → List ℕ → Board
two ms ls es ds fs ps = of_parts 2 (times ls) (times es) (times ds) (words ms) (words fs) (words ps) empty_books

-- Three jobs in the window 0 to 100: job 0 of 10 minutes before job 2 of 5, both valid; and job 1, invalid.
abbrev lengths : List ℤ
lengths = times (pos 10 ∷ pos 0 ∷ pos 5 ∷ [])

abbrev earliest : List ℤ
earliest = times (pos 0 ∷ pos 0 ∷ pos 10 ∷ [])

abbrev latest : List ℤ
latest = times (pos 95 ∷ pos 0 ∷ pos 100 ∷ [])

abbrev marks : List ℕ
marks = words (1 ∷ 2 ∷ 1 ∷ [])

abbrev after : List ℕ
after = words (4 ∷ [])

abbrev before : List ℕ
before = words (0 ∷ 0 ∷ 1 ∷ [])

abbrev three : ℕ → Board
three t = of_parts 3 lengths earliest latest marks after before (with_tally empty_books t)

-- 64 invalid jobs, of which n count
abbrev invalid : ℕ → Board
invalid n = of_parts n (times []) (times []) (times []) (words (replicate job_limit 2)) (words []) (words []) empty_books

-- the same board with one thing altered
abbrev with_lengths : List ℤ → Board
with_lengths ls = of_parts 3 ls earliest latest marks after before empty_books

abbrev with_windows : List ℤ → List ℤ → Board
with_windows es ds = of_parts 3 lengths es ds marks after before empty_books

abbrev with_marks : List ℕ → Board
with_marks ms = of_parts 3 lengths earliest latest ms after before empty_books

abbrev with_arcs : List ℕ → List ℕ → Board
with_arcs fs ps = of_parts 3 lengths earliest latest marks fs ps empty_books

-- ---- the table: boards inside and boards outside

record Limit : Type 0 where
  pub inside : List Board
  pub outside : List Board

abbrev limit : List Board → List Board → Limit
limit i o = record { inside = i; outside = o }

-- "at most 64 jobs"; "stops at 1000000"; 64 places in each array
abbrev sizes : List Limit
sizes =
    limit (invalid 64 ∷ []) (invalid 65 ∷ [])
    ∷ limit (three 0 ∷ three 999999 ∷ three 1000000 ∷ []) (three 1000001 ∷ [])
    ∷ limit
    (three 0 ∷ [])
    (with_lengths (lengths ++ pos 0 ∷ [])
    ∷ with_windows (earliest ++ pos 0 ∷ []) latest
    ∷ with_windows earliest (latest ++ pos 0 ∷ [])
    ∷ with_marks (marks ++ 0 ∷ [])
    ∷ with_arcs (after ++ 0 ∷ []) before
    ∷ with_arcs after (before ++ 0 ∷ [])
    ∷ with_lengths (take 63 lengths)
    ∷ with_windows (take 63 earliest) latest
    ∷ with_windows earliest (take 63 latest)
    ∷ with_marks (take 63 marks)
    ∷ with_arcs (take 63 after) before
    ∷ with_arcs after (take 63 before)
    ∷ [])
    ∷ []

-- "-500000 to 500000"; "1 to 10000; 0 once invalid"; "0 undecided, 1 valid, 2 invalid"
abbrev rows : List Limit
rows =
    limit (one 0 (pos 1) (negsuc 499999) (pos 0) ∷ []) (one 0 (pos 1) (negsuc 500000) (pos 0) ∷ [])
    ∷ limit (one 0 (pos 1) (pos 0) (pos 500000) ∷ []) (one 0 (pos 1) (pos 0) (pos 500001) ∷ [])
    ∷ limit (one 0 (pos 1) (pos 0) (pos 20000) ∷ []) (one 0 (pos 0) (pos 0) (pos 20000) ∷ [])
    ∷ limit (one 0 (pos 10000) (pos 0) (pos 20000) ∷ []) (one 0 (pos 10001) (pos 0) (pos 20000) ∷ [])
    ∷ limit (one 0 (pos 1) (pos 0) (pos 9) ∷ one 1 (pos 1) (pos 0) (pos 9) ∷ []) (one 3 (pos 1) (pos 0) (pos 9) ∷ one 3 (pos 0) (pos 0) (pos 0) ∷ [])
    ∷ limit
    (one 2 (pos 0) (pos 0) (pos 0) ∷ [])
    (one 2 (pos 1) (pos 0) (pos 0) ∷ one 2 (pos 0) (negsuc 0) (pos 0) ∷ one 2 (pos 0) (pos 0) (pos 1) ∷ [])
    ∷ []

-- "a place without a job holds 0 in everything"
abbrev blanks : List Limit
blanks =
    limit
    (three 0 ∷ [])
    (with_lengths (set lengths 63 (pos 1))
    ∷ with_windows (set earliest 63 (pos 1)) latest
    ∷ with_windows earliest (set latest 63 (pos 1))
    ∷ with_marks (set marks 63 1)
    ∷ with_marks (set marks 3 2)
    ∷ with_arcs (set after 63 1) (set before 0 (2 ^ 63))
    ∷ [])
    ∷ []

-- "An arc joins two different jobs of the board", both live, and is kept twice
abbrev arcs : List Limit
arcs =
    limit
    (three 0 ∷ [])
    (with_arcs (set after 0 5) (set before 0 1)
    ∷ with_arcs (set after 0 6) (set before 1 1)
    ∷ with_arcs (set after 1 4) (set before 2 3)
    ∷ with_arcs (set after 0 (4 + 2 ^ 63)) (set before 63 1)
    ∷ with_arcs (set after 2 1) before
    ∷ with_arcs after (set before 0 4)
    ∷ with_arcs (set after 0 0) before
    ∷ with_arcs after (set before 2 0)
    ∷ [])
    ∷ []

-- three undecided jobs but for a valid one between the others; R1 joins these
abbrev chain : ℕ → ℕ → Board
chain f p =
    of_parts 3
    (times (pos 5 ∷ pos 5 ∷ pos 5 ∷ []))
    (times (pos 0 ∷ pos 0 ∷ pos 5 ∷ []))
    (times (pos 95 ∷ pos 100 ∷ pos 100 ∷ []))
    (words (0 ∷ 1 ∷ 0 ∷ []))
    (words (f ∷ 4 ∷ []))
    (words (0 ∷ 1 ∷ p ∷ []))
    empty_books

abbrev both_ways : ℕ → ℕ → Board
both_ways m n = two (m ∷ n ∷ []) (pos 5 ∷ pos 5 ∷ []) (pos 0 ∷ pos 0 ∷ []) (pos 100 ∷ pos 100 ∷ []) (2 ∷ 1 ∷ []) (2 ∷ 1 ∷ [])

-- M8 and M9 without an arc
abbrev loose : ℕ → Board
loose d = two (1 ∷ 1 ∷ []) (pos 40 ∷ pos 20 ∷ []) (pos 0 ∷ pos 10 ∷ []) (pos 100 ∷ pos d ∷ []) [] []

-- R1 to R6, each just obeyed and just broken
abbrev closed : List Limit
closed =
    limit (chain 6 3 ∷ []) (chain 2 2 ∷ [])
    ∷ limit (both_ways 0 0 ∷ []) (both_ways 1 0 ∷ both_ways 0 1 ∷ [])
    ∷ limit (loose 60 ∷ []) (loose 59 ∷ [])
    ∷ limit (three 0 ∷ []) (with_windows (set earliest 2 (pos 9)) latest ∷ [])
    ∷ limit (three 0 ∷ []) (with_windows earliest (set latest 0 (pos 96)) ∷ [])
    ∷ limit (one 0 (pos 10) (pos 0) (pos 10) ∷ []) (one 0 (pos 10) (pos 0) (pos 9) ∷ one 1 (pos 10) (pos 0) (pos 9) ∷ [])
    ∷ []

-- ---- what is computed

abbrev every : {A : Type 0} → (A → Bool) → List A → Bool
every t [] = true
every t (x ∷ xs) = t x && every t xs

abbrev decided : Limit → Bool
decided l = every passes l.inside && every (λ b. not (passes b)) l.outside

-- marking the invalid job valid is impossible: the tally is then so much; above its limit the board is refused
abbrev counts : ℕ → ℕ → ℕ → Bool
counts t r u =
    let e = enter (three t) (marked 1 1) in
    gives (entry_refusal (reply_of e.answer)) (some r) && eqb e.board.books.tally u

limits_decided : (every decided (sizes ++ rows ++ blanks ++ arcs ++ closed) && counts 999999 8 1000000 && counts 1000000 8 1000000 && counts 1000001 0 1000001) ≡ true
unfolding eq_z bit sum all implies between is_zero fits is_zero_row full shape holds_job holds_nothing joinable agrees within_limits live valid update ◌and_then◌ guard ◌or_else◌ first any beyond too_late joined pushers pushed push next find nothing_left passes first_refusal update_all raw closure_with enter
limits_decided = refl
