-- Whenever a piece is written, what the page holds is the next of the text.
use Rattle.std.proofs.Common.{length, ◌≡◌}
use Rattle.text_decimals.specs.Written.{text_of, capacity_of}
use Rattle.program_console.specs.Buffered.{Buffered}
use Rattle.program_console.proofs.serve_text.Given as goal

abbrev pub invariant-loop-page : goal.invariant-loop-page
invariant-loop-page g l =
    (capacity_of l.page ≡ 65536) × Buffered l.fn.bytes (text_of l.page) l.piece.board l.rest (g.W.Write.contents l.fn.writer) (g.W.Write.contents l.writer)

abbrev pub decreases-loop-page : goal.decreases-loop-page
decreases-loop-page g l = length l.rest
