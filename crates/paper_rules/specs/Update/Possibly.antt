-- What a call that alters a board in place comes to: the board as it is then, or none where the call gives none.
use Rattle.std.specs.Prelude as found
use Rattle.std.proofs.Math.Option.{Option, none, some}
use Rattle.paper_board.specs.declared.Board.{Board}

abbrev pub possibly : {A : Type 0} → found.Option A → Board → Option Board
possibly found.None b = none
possibly (found.Some x) b = some b
