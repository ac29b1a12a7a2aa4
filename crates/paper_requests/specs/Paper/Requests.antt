-- "every call, with any numbers": the four entries, row, pair and plan, the refusals that each has, and what it gives on any board
-- handed in.
use Rattle.std.specs.Prelude.{◌≡◌, List, [], ◌∷◌, ℕ, ℤ}
use Rattle.std.proofs.Math.Option.{Option, none, some}
use Rattle.paper_board.specs.declared.Board.{Board}
use Rattle.paper_entries.specs.Paper.Replies.{Reply, ok_number, ok, no_number, reply_of, RowReply, shows_row, no_row, row_reply_of, PairReply, shows_pair, no_pair, pair_reply_of}
use Rattle.paper_entries.specs.Paper.Entry.{arc, mark, cut, Entry, addition, other}
use Rattle.paper_entries.specs.Paper.Enter.{enter}
use Rattle.paper_entries.specs.Paper.Checks.{Check, job_check, pair_checks, checks, budget_check}
use Rattle.paper_entries.specs.Paper.Looking
use Rattle.paper_plans.specs.Paper.PlanReply.{PlanReply, plan_found, plan_none, plan_spent, no_plan, plan_reply_of}
use Rattle.paper_plans.specs.Paper.Planner

-- The paper's "call", of every sort; `Call` is an entry call of a sequence, in its manner.
pub data Request : Type 0 where
  entry : Entry → Request
  row : ℤ → Request
  pair : ℤ → ℤ → Request
  plan : ℤ → Request

pub data Sort : Type 0 where
  an-addition an-arc a-mark a-cut a-row a_pair a-plan : Sort

abbrev pub sort_of : Request → Sort
sort_of (entry (addition l e d m)) = an-addition
sort_of (entry (other (arc a b))) = an-arc
sort_of (entry (other (mark j m))) = a-mark
sort_of (entry (other (cut j e d))) = a-cut
sort_of (row j) = a-row
sort_of (pair a b) = a_pair
sort_of (plan z) = a-plan

-- the numbers of the table, "as far as a call has them"
abbrev pub refusals_of : Sort → List ℕ
refusals_of an-addition = 0 ∷ 1 ∷ 4 ∷ 5 ∷ 6 ∷ 7 ∷ 8 ∷ []
refusals_of an-arc = 0 ∷ 2 ∷ 3 ∷ 8 ∷ []
refusals_of a-mark = 0 ∷ 2 ∷ 7 ∷ 8 ∷ []
refusals_of a-cut = 0 ∷ 2 ∷ 5 ∷ 6 ∷ 8 ∷ []
refusals_of a-row = 0 ∷ 2 ∷ []
refusals_of a_pair = 0 ∷ 2 ∷ 3 ∷ []
refusals_of a-plan = 0 ∷ 9 ∷ []

-- the checks between 0 and 8, and 9, in the table's order
abbrev pub checks_of : ℕ → Request → List Check
checks_of n (entry e) = checks n e
checks_of n (row j) = job_check n j ∷ []
checks_of n (pair a b) = pair_checks n a b
checks_of n (plan z) = budget_check z ∷ []

-- the number that a reply is refused with, or none where it is a result
abbrev pub entry_refusal : Reply → Option ℕ
entry_refusal (ok_number k) = none
entry_refusal ok = none
entry_refusal (no_number r) = some r

abbrev pub row_refusal : RowReply → Option ℕ
row_refusal (shows_row m e d before after) = none
row_refusal (no_row r) = some r

abbrev pub pair_refusal : PairReply → Option ℕ
pair_refusal (shows_pair n gap) = none
pair_refusal (no_pair r) = some r

abbrev pub plan_refusal : PlanReply → Option ℕ
plan_refusal (plan_found t p) = none
plan_refusal (plan_none t) = none
plan_refusal (plan_spent z) = none
plan_refusal (no_plan r) = some r

abbrev pub refusal : Board → Request → Option ℕ
refusal b (entry e) = entry_refusal (reply_of (enter b e).answer)
refusal b (row j) = row_refusal (row_reply_of (Looking.row b j))
refusal b (pair x y) = pair_refusal (pair_reply_of (Looking.pair b x y))
refusal b (plan z) = plan_refusal (plan_reply_of (Planner.plan b z))

-- the board that the call returns or leaves; those that look get it by value or by shared reference, and so can't alter it
abbrev pub board_after : Board → Request → Board
board_after b (entry e) = (enter b e).board
board_after b (row j) = b
board_after b (pair x y) = b
board_after b (plan z) = b

-- a call of this sort on some board is refused with this number
pub record Met (s : Sort) (r : ℕ) : Type 0 where
  pub board : Board
  pub request : Request
  pub sort : sort_of request ≡ s
  pub refused : refusal board request ≡ some r
