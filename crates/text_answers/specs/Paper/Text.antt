-- A whole text: what each line gives, the bytes of all answers, and the board at the end.
use Rattle.std.specs.Prelude.{ℕ, leb, ℤ, length, cond, Option, Some, None, List, [], ◌∷◌, ◌++◌}
use Rattle.paper_board.specs.declared.Board.{Board}
use Rattle.paper_board.specs.declared.Refusal.TheVariants as Refused
use Rattle.paper_board.specs.Paper.Refusals.{number_of}
use Rattle.paper_board.specs.Paper.Limits.{empty_board}
use Rattle.paper_board.specs.Paper.Parts.{empty_books}
use Rattle.paper_entries.specs.declared.Entered.{Entered}
use Rattle.paper_entries.specs.Paper.Enter.{enter}
use Rattle.paper_entries.specs.Paper.Looking.{row, pair}
use Rattle.paper_entries.specs.Paper.EntryOf.{entry_of}
use Rattle.paper_entries.specs.Paper.Replies.{Reply, RowReply, PairReply, no_number, reply_of, row_reply_of, pair_reply_of}
use Rattle.paper_plans.specs.Paper.PlanReply.{PlanReply, plan_reply_of}
use Rattle.paper_plans.specs.Paper.Planner.{plan}
use Rattle.text_forms.specs.declared.Form.{Form}
use Rattle.text_forms.specs.declared.Form.TheVariants.{Entry, Row, Pair, Plan, Tally}
use Rattle.text_forms.specs.Paper.Forms.{form_of}
use Rattle.text_forms.specs.Paper.Lines.{Line, ended, unended, lines_of}
use Rattle.text_replies.specs.Paper.ReplyTexts.{entry_text, row_text, pair_text, plan_text, tally_text}

-- the answer to a line
pub data LineReply : Type 0 where
  to_entry : Reply → LineReply
  to_row : ℤ → RowReply → LineReply
  to_pair : PairReply → LineReply
  to_plan : PlanReply → LineReply
  to_tally : ℕ → LineReply

abbrev pub reply_text : LineReply → List ℕ
reply_text (to_entry r) = entry_text r
reply_text (to_row j r) = row_text j r
reply_text (to_pair r) = pair_text r
reply_text (to_plan r) = plan_text r
reply_text (to_tally n) = tally_text n

-- the answer to a line, and the board after it
pub record Answered : Type 0 where
  pub reply : LineReply
  pub board : Board

abbrev pub looked : Board → LineReply → Answered
looked b r = record { reply = r; board = b }

abbrev pub entered : Entered → Answered
entered e = record { reply = to_entry (reply_of e.answer); board = e.board }

-- 10 form, "the line is no form of the text"
abbrev pub formless : Board → Answered
formless b = looked b (to_entry (no_number (number_of Refused.Form)))

-- a line that is this form, or none
unfoldable pub carried_out : Board → Option Form → Answered
carried_out b (Some (Entry e)) = entered (enter b (entry_of e))
carried_out b (Some (Row j)) = looked b (to_row j (row_reply_of (row b j)))
carried_out b (Some (Pair x y)) = looked b (to_pair (pair_reply_of (pair b x y)))
carried_out b (Some (Plan n)) = looked b (to_plan (plan_reply_of (plan b n)))
carried_out b (Some Tally) = looked b (to_tally b.books.tally)
carried_out b None = formless b

-- "An empty line, or a last line without its line feed, gets 10."
abbrev pub answered : Board → Line → Answered
answered b (ended l) = carried_out b (form_of l)
answered b (unended l) = formless b

-- what a text gives: the answers to its lines in order, and the board at the end
pub record Served : Type 0 where
  pub replies : List LineReply
  pub board : Board

unfoldable pub serve : Board → List Line → Served
serve b [] = record { replies = []; board = b }
serve b (l ∷ ls) =
    let a = answered b l in
    let rest = serve a.board ls in
    record { replies = a.reply ∷ rest.replies; board = rest.board }

-- 11 load, "the text is longer than 65536 bytes"
abbrev pub load_limit : ℕ
load_limit = 65536

-- "A text refused as 11 gives the line `(no 11)` and no other; none of its forms is carried out."
abbrev pub overloaded : Served
overloaded = record { replies = to_entry (no_number (number_of Refused.Load)) ∷ []; board = empty_board empty_books }

unfoldable pub serve_text : List ℕ → Served
serve_text t = cond (leb (length t) load_limit) (serve (empty_board empty_books) (lines_of t)) overloaded

-- the bytes of the answers
unfoldable pub output : List LineReply → List ℕ
output [] = []
output (r ∷ rs) = reply_text r ++ output rs
