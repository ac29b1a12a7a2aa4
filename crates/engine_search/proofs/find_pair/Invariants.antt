-- `engine_search::find_pair` meets its contract, for any board that the arrays are read from: in the walk over rows, and in a row over its
-- partners, nothing is left to infer at those passed. Assumes nothing.
use Rattle.std.proofs.Common.{◌≡◌}
use Rattle.std.specs.Prelude.{None}
use Rattle.paper_board.specs.declared.Board.{Board}
use Rattle.paper_board.specs.Paper.View.{view}
use Rattle.engine_partners.specs.PairSettled.{PairsLeft}
use Rattle.engine_search.specs.PairsWalk.{BoardRead, RowsLeft}
use Rattle.engine_search.proofs.find_pair.Given as goal

abbrev pub invariant-pairs : goal.invariant-pairs
invariant-pairs l =
    (l.found ≡ None)
    × ((b : Board) → BoardRead b l.sets.live l.sets.valid l.windows.earliest.now l.windows.latest.now l.windows.lengths.now l.arcs.before.now l.arcs.after.now
    → RowsLeft (view b) l.i-iterator.left)

abbrev pub invariant-loop-k : goal.invariant-loop-k
invariant-loop-k l =
    (l.found ≡ None)
    × ((b : Board) → BoardRead b l.sets.live l.sets.valid l.windows.earliest.now l.windows.latest.now l.windows.lengths.now l.arcs.before.now l.arcs.after.now
    → PairsLeft (view b) l.i l.k-iterator.left)
