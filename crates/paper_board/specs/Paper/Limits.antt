-- "These limits belong to the board's own type": which boards are within their limits, and the board without jobs.
use Rattle.std.specs.Prelude.{◌≡◌, ◌≢◌, ℕ, ◌<◌, ◌≤◌, ℤ, pos, negsuc, ◌≤ℤ◌, length, replicate}
use Rattle.paper_board.specs.declared.Board.{Board}
use Rattle.paper_board.specs.declared.Books.{Books}
use Rattle.paper_board.specs.Paper.Parts.{of_parts}
use Rattle.paper_board.specs.Paper.View.{Row, View, Live, Arc, view, arc_of, arc_into_of}

-- "A board holds at most 64 jobs"; the tally "stops at 1000000"
abbrev pub job_limit : ℕ
job_limit = 64

abbrev pub tally_limit : ℕ
tally_limit = 1000000

-- "Times are whole minutes, -500000 to 500000."
abbrev pub first_minute : ℤ
first_minute = negsuc 499999

abbrev pub last_minute : ℤ
last_minute = pos 500000

pub record IsTime (z : ℤ) : Type 0 where
  pub low : first_minute ≤ℤ z
  pub high : z ≤ℤ last_minute

-- "A job has a length (1 to 10000; 0 once invalid)"
abbrev pub shortest : ℤ
shortest = pos 1

abbrev pub longest : ℤ
longest = pos 10000

pub record IsLength (z : ℤ) : Type 0 where
  pub low : shortest ≤ℤ z
  pub high : z ≤ℤ longest

-- a row of a live job
pub record Fits (r : Row) : Type 0 where
  pub length : IsLength r.length
  pub earliest : IsTime r.earliest
  pub latest : IsTime r.latest

-- a row that holds 0 but for its mark
abbrev pub zero_row : ℕ → Row
zero_row m = record { mark = m; length = pos 0; earliest = pos 0; latest = pos 0 }

-- What a row r at place k holds on a board of n jobs.
pub record RowLimits (n k : ℕ) (r : Row) : Type 0 where
  -- "a mark: 0 undecided, 1 valid, 2 invalid"
  pub mark : r.mark ≤ 2
  pub live : k < n → r.mark ≢ 2 → Fits r
  -- "An invalid job holds length 0, E 0, D 0 and no arcs"
  pub invalid : k < n → r.mark ≡ 2 → r ≡ zero_row 2
  -- "a place without a job holds 0 in everything"
  pub blank : n ≤ k → r ≡ zero_row 0

-- The limits of what the rules read.
pub record Limited (v : View) : Type 0 where
  pub jobs : v.jobs ≤ job_limit
  pub rows : (k : ℕ) → RowLimits v.jobs k (v.row k)
  -- "An arc joins two different jobs of the board", and both are live
  pub arcs : (i k : ℕ) → Arc v i k → Live v i × Live v k × (i ≢ k)

-- The arrays have 64 places each, as their type says.
abbrev pub Shape : Board → Type 0
Shape b =
    record {
      lengths : length b.lengths ≡ job_limit;
      earliest : length b.earliest ≡ job_limit;
      latest : length b.latest ≡ job_limit;
      marks : length b.marks ≡ job_limit;
      after : length b.after ≡ job_limit;
      before : length b.before ≡ job_limit;
    }

-- A board within its limits, its books aside.
pub record Within (b : Board) : Type 0 where
  pub shape : Shape b
  pub limits : Limited (view b)
  -- the arc that is kept twice agrees
  pub twice : (i k : ℕ) → arc_into_of b k i ≡ arc_of b i k

-- Books within their limits.
pub record BooksWithin (books : Books) : Type 0 where
  pub tally : books.tally ≤ tally_limit

-- "An empty board has no jobs; its tally may be any within its limit."
abbrev pub empty_board : Books → Board
empty_board books =
    of_parts 0
    (replicate job_limit (pos 0))
    (replicate job_limit (pos 0))
    (replicate job_limit (pos 0))
    (replicate job_limit 0)
    (replicate job_limit 0)
    (replicate job_limit 0)
    books
