-- Check 0: "the board handed in breaks a limit above, keeps something twice that doesn't agree, or isn't closed over what
-- it shows", as a test.
use Rattle.std.specs.Prelude.{Bool, true, false, ◌&&◌}
use Rattle.std.proofs.Math.Option.{Option, none, some}
use Rattle.paper_board.specs.declared.Board.{Board}
use Rattle.paper_board.specs.Paper.View.{view}
use Rattle.paper_board.specs.BoardTests.WithinLimits.{within_limits, books_limits}
use Rattle.paper_board.specs.Paper.Facts.{Fact}
use Rattle.paper_closure.specs.Find.{find}

-- nothing is left to infer
unfoldable pub nothing_left : Option Fact → Bool
nothing_left none = true
nothing_left (some f) = false

unfoldable pub passes : Board → Bool
passes b = within_limits b && books_limits b.books && nothing_left (find (view b))
