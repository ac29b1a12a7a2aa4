-- Why a host may go on making the unchecked calls: the empty board passes check 0, and so does what a call leaves of a board
-- that passes, refused or not.
use Rattle.std.specs.Prelude.{◌≡◌, true}
use Rattle.paper_board.specs.declared.Board.{Board}
use Rattle.paper_board.specs.Paper.Limits.{empty_board}
use Rattle.paper_board.specs.Paper.Parts.{empty_books}
use Rattle.paper_rules.specs.Order.Empty.{within_empty_books}
use Rattle.paper_closure.specs.Passes.{passes}
use Rattle.paper_closure.proofs.PassesClosed as checked
use Rattle.paper_entries.specs.Paper.Entry.{Entry}
use Rattle.paper_entries.specs.Paper.Enter.{enter}
use Rattle.paper_entries.proofs.Later.{call_later}
use Rattle.call_reply_numbers.specs.ReplyNumbers.{replied}

pub empty_board_passes : passes (empty_board empty_books) ≡ true
empty_board_passes = checked.empty_passes empty_books within_empty_books

pub left_passes : (b : Board) (e : Entry) → passes b ≡ true → passes (replied (enter b e)).board ≡ true
left_passes b e p = (call_later b e p).passes
