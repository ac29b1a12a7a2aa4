-- `next` ends, and keeps what was written and what remains.
use Rattle.std.proofs.Common.{◌≡◌, length}
use Rattle.text_decimals.specs.Written.{text_of, capacity_of, SameBuffer}
use Rattle.text_pieces.specs.PieceState.{PieceState}
use Rattle.text_forms.specs.Paper.Lines.{lines_of}
use Rattle.text_answers.specs.Paper.Text.{serve}
use Rattle.text_pieces.proofs.next.Given as goal

abbrev pub invariant-loop-page : goal.invariant-loop-page
invariant-loop-page l =
    (capacity_of l.page ≡ capacity_of l.fn.page) × SameBuffer l.fn.page l.page × PieceState (serve l.initial.board (lines_of l.text)) l.text (text_of l.page) l.board l.rest

abbrev pub decreases-loop-page : goal.decreases-loop-page
decreases-loop-page l = length l.rest
