-- A sequence of entry calls in either manner: the boards, the answers, and what was accepted.
use Rattle.std.specs.Prelude.{cond, List, [], ◌∷◌, ◌++◌, ℕ, ◌+◌, eqb}
use Rattle.paper_board.specs.declared.Board.{Board}
use Rattle.paper_board.specs.declared.Books.{Books}
use Rattle.paper_board.specs.Paper.Limits.{empty_board}
use Rattle.paper_entries.specs.declared.Entered.{Entered}
use Rattle.paper_entries.specs.Paper.Entry.{Entry}
use Rattle.paper_entries.specs.Paper.Enter.{enter}
use Rattle.paper_entries.specs.Paper.Replies.{Reply, ok_number, ok, no_number, reply_of}

-- "Every entry call exists in two manners: the board goes in and comes back; and the host's own board is altered where it
-- is kept, with the same answers."
pub data Manner : Type 0 where
  byValue inPlace : Manner

-- The manner comes in where code answers a call: `outcome` doesn't read it, and the calls by value (crate `call_dock`) and those in place
-- (crate `call_in_place`) are each proved to give that outcome.
pub record Call : Type 0 where
  pub manner : Manner
  pub entry : Entry

-- what a call answers, and the board that it returned or left
abbrev pub outcome : Board → Call → Entered
outcome b c = enter b c.entry

-- "Each later one gets the board that the call before returned or left, refused or not"
unfoldable pub after : Board → List Call → Board
after b [] = b
after b (c ∷ cs) = after (outcome b c).board cs

-- "An entry is accepted when its call gives no refusal"
abbrev pub kept : Reply → Entry → List Entry
kept (ok_number k) e = e ∷ []
kept ok e = e ∷ []
kept (no_number r) e = []

-- the accepted entries, in order
unfoldable pub accepted : Board → List Call → List Entry
accepted b [] = []
accepted b (c ∷ cs) = kept (reply_of (outcome b c).answer) c.entry ++ accepted (outcome b c).board cs

-- the board after the calls, from an empty board with these books
abbrev pub final_board : Books → List Call → Board
final_board books cs = after (empty_board books) cs

-- what the calls accepted, in order
abbrev pub accepted_by : Books → List Call → List Entry
accepted_by books cs = accepted (empty_board books) cs

-- "a tally of calls answered 8": how many of the calls are
abbrev pub one_impossible : Reply → ℕ
one_impossible (ok_number k) = 0
one_impossible ok = 0
one_impossible (no_number r) = cond (eqb r 8) 1 0

unfoldable pub impossibles : Board → List Call → ℕ
impossibles b [] = 0
impossibles b (c ∷ cs) = one_impossible (reply_of (outcome b c).answer) + impossibles (outcome b c).board cs

-- A claim P holds of each call in turn: of the board that it gets, of what was accepted before it, and of the call.
unfoldable pub Each : (Board → List Entry → Call → Type 0) → Board → List Entry → List Call → Type 0
Each P b before [] = Unit
Each P b before (c ∷ cs) =
    P b before c × Each P (outcome b c).board (before ++ kept (reply_of (outcome b c).answer) c.entry) cs
