-- The test of "a board that breaks a limit above, keeps something twice that doesn't agree": the limits of a board as
-- check 0 tests them. Pairs are tested among the jobs alone, so that a small board is tested quickly.
use Rattle.std.specs.Prelude.{Bool, true, not, ◌&&◌, List, ℕ, zero, suc, ◌^◌, eqb, leb, ltb, ℤ, pos, length, get_or}
use Rattle.std.specs.Bool.{beq}
use Rattle.ground_arithmetic.specs.Linear.{eq_z}
use Rattle.paper_board.specs.declared.Board.{Board}
use Rattle.paper_board.specs.declared.Books.{Books}
use Rattle.paper_board.specs.Paper.View.{Row, view, row_of, arc_of, arc_into_of}
use Rattle.paper_board.specs.Paper.Limits.{job_limit, tally_limit}
use Rattle.paper_board.specs.Paper.Tests.{live, implies, is_time, is_length}

-- does the test hold of every number below n?
unfoldable pub all : ℕ → (ℕ → Bool) → Bool
all zero t = true
all (suc n) t = all n t && t n

unfoldable pub is_zero : ℤ → Bool
is_zero z = eq_z z (pos 0)

-- a row of a live job
unfoldable pub fits : Row → Bool
fits r = is_length r.length && is_time r.earliest && is_time r.latest

-- a row that holds 0 but for its mark
unfoldable pub is_zero_row : ℕ → Row → Bool
is_zero_row m r = eqb r.mark m && is_zero r.length && is_zero r.earliest && is_zero r.latest

-- The arrays have 64 places each.
unfoldable pub full : {A : Type 0} → List A → Bool
full l = eqb (length l) job_limit

unfoldable pub shape : Board → Bool
shape b =
    full b.lengths
    && full b.earliest
    && full b.latest
    && full b.marks
    && full b.after
    && full b.before

-- Place k holds a job: "a mark: 0 undecided, 1 valid, 2 invalid"; a live job fits, an invalid one holds 0, and no arc leads
-- from or to a place without a job.
unfoldable pub holds_job : Board → ℕ → Bool
holds_job b k =
    leb (row_of b k).mark 2
    && implies (live (view b) k) (fits (row_of b k))
    && implies (eqb (row_of b k).mark 2) (is_zero_row 2 (row_of b k))
    && ltb (get_or b.after k 0) (2 ^ b.jobs)
    && ltb (get_or b.before k 0) (2 ^ b.jobs)

-- "a place without a job holds 0 in everything"
unfoldable pub holds_nothing : Board → ℕ → Bool
holds_nothing b k = is_zero_row 0 (row_of b k) && eqb (get_or b.after k 0) 0 && eqb (get_or b.before k 0) 0

-- "An arc joins two different jobs of the board", and both are live
unfoldable pub joinable : Board → ℕ → ℕ → Bool
joinable b i k = live (view b) i && live (view b) k && not (eqb i k)

-- Of the jobs i and k: an arc joins only what it may, and the two words that keep it agree.
unfoldable pub agrees : Board → ℕ → ℕ → Bool
agrees b i k = implies (arc_of b i k) (joinable b i k) && beq (arc_into_of b k i) (arc_of b i k)

-- the limits of a board, its books aside
unfoldable pub within_limits : Board → Bool
within_limits b =
    shape b
    && leb b.jobs job_limit
    && all b.jobs (holds_job b)
    && all job_limit (λ k. implies (leb b.jobs k) (holds_nothing b k))
    && all b.jobs (λ i. all b.jobs (agrees b i))

-- the limits of the books
abbrev pub books_limits : Books → Bool
books_limits books = leb books.tally tally_limit
