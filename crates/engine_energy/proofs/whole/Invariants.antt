-- `engine_energy::whole` meets its contract. The loop's invariant: least is of the jobs passed, and total with the lengths of those left
-- comes to all lengths. Assumes nothing.
use Rattle.std.proofs.Common.{◌≡◌, List, ℕ, ℤ, ◌+ℤ◌}
use Rattle.paper_board.specs.Paper.View.{Side}
use Rattle.paper_board.specs.Paper.Values.{side_of}
use Rattle.engine_sums.specs.Sums.{load}
use Rattle.engine_energy.specs.Passed.{Passed}
use Rattle.engine_energy.proofs.whole.Given as goal

pub record Tested (s : Side) (times lengths : List ℤ) (set left : ℕ) (low all : ℤ) : Type 0 where
  pub passed : Passed s times set left low
  pub loaded : all +ℤ load lengths left ≡ load lengths set

abbrev pub invariant-loop-k : goal.invariant-loop-k
invariant-loop-k l =
    Tested (side_of l.bounds.side) l.bounds.times.now l.bounds.lengths.now l.set l.k-iterator.left l.least l.total
