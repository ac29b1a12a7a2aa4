-- Answers in the paper's numbers and values: what each case of the code's results stands for.
use Rattle.std.specs.Prelude.{ℕ, ℤ, Some, None, Ok, Err}
use Rattle.paper_board.specs.Paper.Refusals.{number_of}
use Rattle.paper_entries.specs.Paper.Answers.{Answer, RowAnswer, PairAnswer}

-- "`(ok K)` for an addition, K its number; `(ok)`; `(no R)` with refusal R"
pub data Reply : Type 0 where
  ok_number : ℕ → Reply
  ok : Reply
  no_number : ℕ → Reply

abbrev pub reply_of : Answer → Reply
reply_of (Ok (Some k)) = ok_number k
reply_of (Ok None) = ok
reply_of (Err r) = no_number (number_of r)

-- "Row of a job: mark, E, D, the set before it and the set after it."
pub data RowReply : Type 0 where
  shows_row : ℕ → ℤ → ℤ → ℕ → ℕ → RowReply
  no_row : ℕ → RowReply

abbrev pub row_reply_of : RowAnswer → RowReply
row_reply_of (Ok row) = shows_row row.mark row.earliest row.latest row.before row.after
row_reply_of (Err r) = no_row (number_of r)

-- "Pair of A, B: 0 no arc, 1 A to B, 2 B to A, 3 both; and the gap"
pub data PairReply : Type 0 where
  shows_pair : ℕ → ℤ → PairReply
  no_pair : ℕ → PairReply

abbrev pub pair_reply_of : PairAnswer → PairReply
pair_reply_of (Ok pair) = shows_pair pair.arcs pair.gap
pair_reply_of (Err r) = no_pair (number_of r)
