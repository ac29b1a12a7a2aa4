-- When boards are equal.
use Rattle.std.specs.Prelude.{◌≡◌, ℕ}
use Rattle.paper_board.specs.declared.Board.{Board}
use Rattle.paper_board.specs.Paper.View.{row_of, arc_of}

-- "the number of jobs, every length, window, mark and arc [..] agree": all that updates and inferences alter
pub record Alike (b c : Board) : Type 0 where
  pub jobs : b.jobs ≡ c.jobs
  pub rows : (k : ℕ) → row_of b k ≡ row_of c k
  pub arcs : (i k : ℕ) → arc_of b i k ≡ arc_of c i k

-- equal, the tally aside
pub record Same (b c : Board) : Type 0 where
  pub alike : Alike b c

-- "Boards are equal when the number of jobs, every length, window, mark and arc, and the tally agree."
pub record EqualBoards (b c : Board) : Type 0 where
  pub alike : Alike b c
  pub books : b.books ≡ c.books
