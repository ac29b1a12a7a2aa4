-- A board by its parts: the number of jobs, the six arrays that the rules read, and the books, which no update and no inference alters.
-- No other definition names them all.
use Rattle.std.specs.Prelude.{List, ℕ, ℤ}
use Rattle.paper_board.specs.declared.Board.{Board}
use Rattle.paper_board.specs.declared.Books.{Books}

-- ---- boards

abbrev pub of_parts : ℕ → List ℤ → List ℤ → List ℤ → List ℕ → List ℕ → List ℕ → Books → Board
of_parts jobs lengths earliest latest marks after before books =
    record {
      jobs = jobs;
      lengths = lengths;
      earliest = earliest;
      latest = latest;
      marks = marks;
      after = after;
      before = before;
      books = books;
    }

-- the board b with other arrays
abbrev pub filled : Board → List ℤ → List ℤ → List ℤ → List ℕ → List ℕ → List ℕ → Board
filled b lengths earliest latest marks after before = of_parts b.jobs lengths earliest latest marks after before b.books

-- the board b with another number of jobs
abbrev pub with_jobs : Board → ℕ → Board
with_jobs b jobs = of_parts jobs b.lengths b.earliest b.latest b.marks b.after b.before b.books

-- the board b with other books
abbrev pub with_books : Board → Books → Board
with_books b books = of_parts b.jobs b.lengths b.earliest b.latest b.marks b.after b.before books

-- ---- books

-- The tally "starts at 0".
abbrev pub empty_books : Books
empty_books = record { tally = 0 }

-- the books with another tally
abbrev pub with_tally : Books → ℕ → Books
with_tally books tally = record { tally = tally }
