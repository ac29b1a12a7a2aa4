-- `engine_places::place_holds` meets its contract at a live job: the words of its arcs have 64 bits.
use Rattle.std.proofs.Common.{rules}
use Rattle.engine_places.specs.Place.{place_live}
use Rattle.engine_places.proofs.place_holds.Goals as goal

pub returns-then-mark-lt-INVALID : goal.returns-then-mark-lt-INVALID
returns-then-mark-lt-INVALID c =
    place_live c.args.board.now c.args.k c.is_live_place.ensures (search rules) (search rules) c.if-board-k.false c.if-mark-lt-INVALID.true
