-- The replies of the exported calls: what each case of an answer is in numbers, and 0 in every field that the case doesn't use.
use Rattle.std.specs.Prelude.{true, false, ℕ, pos, Some, None, Ok, Err}
use Rattle.paper_board.specs.declared.Board.{Board}
use Rattle.paper_board.specs.Paper.Refusals.{number_of}
use Rattle.paper_entries.specs.declared.Entered.{Entered}
use Rattle.paper_entries.specs.Paper.Answers.{Answer, RowAnswer, PairAnswer}
use Rattle.paper_plans.specs.declared.TriesEnd.TheVariants as Ends
use Rattle.paper_plans.specs.Paper.Answers.{PlanAnswer}
use Rattle.paper_plans.specs.declared.Planned.{Planned}
use Rattle.call_reply_numbers.specs.declared.ReplyNumbers.{ReplyNumbers}
use Rattle.call_reply_numbers.specs.declared.RowReplyNumbers.{RowReplyNumbers}
use Rattle.call_reply_numbers.specs.declared.PairReplyNumbers.{PairReplyNumbers}
use Rattle.call_reply_numbers.specs.declared.PlanReplyNumbers.{PlanReplyNumbers}

-- "`(ok K)` for an addition, K its number; `(ok)`; `(no R)` with refusal R"
abbrev pub reply_numbers : Answer → ReplyNumbers
reply_numbers (Ok (Some k)) = record { accepted = true; number = k }
reply_numbers (Ok None) = record { accepted = true; number = 0 }
reply_numbers (Err r) = record { accepted = false; number = number_of r }

-- the same with the board after the entry
pub record Replied : Type 0 where
  pub reply : ReplyNumbers
  pub board : Board

abbrev pub replied : Entered → Replied
replied e = record { reply = reply_numbers e.answer; board = e.board }

-- "Row of a job: mark, E, D, the set before it and the set after it."
abbrev pub row_reply_numbers : RowAnswer → RowReplyNumbers
row_reply_numbers (Ok row) =
    record {
      accepted = true;
      refusal = 0;
      mark = row.mark;
      earliest = row.earliest;
      latest = row.latest;
      before = row.before;
      after = row.after;
    }
row_reply_numbers (Err r) =
    record { accepted = false; refusal = number_of r; mark = 0; earliest = pos 0; latest = pos 0; before = 0; after = 0 }

-- "Pair of A, B: 0 no arc, 1 A to B, 2 B to A, 3 both; and the gap"
abbrev pub pair_reply_numbers : PairAnswer → PairReplyNumbers
pair_reply_numbers (Ok pair) = record { accepted = true; refusal = 0; arcs = pair.arcs; gap = pair.gap }
pair_reply_numbers (Err r) = record { accepted = false; refusal = number_of r; arcs = 0; gap = pos 0 }

-- found 0, none 1 or spent 2 with the number of tries; or 3 with the refusal's number
abbrev pub ending_number : PlanAnswer → ℕ
ending_number (Ok (Ends.Found t)) = 0
ending_number (Ok (Ends.None t)) = 1
ending_number (Ok (Ends.Spent t)) = 2
ending_number (Err r) = 3

abbrev pub plan_number : PlanAnswer → ℕ
plan_number (Ok (Ends.Found t)) = t
plan_number (Ok (Ends.None t)) = t
plan_number (Ok (Ends.Spent t)) = t
plan_number (Err r) = number_of r

-- "its plan [..] holds the placed jobs with their starts"
abbrev pub plan_reply_numbers : Planned → PlanReplyNumbers
plan_reply_numbers p =
    record { ending = ending_number p.answer; number = plan_number p.answer; placed = p.placed; starts = p.starts }
