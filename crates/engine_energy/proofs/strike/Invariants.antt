-- `engine_energy::strike` meets its contract. The loop's invariant: the jobs kept come from strikes, each one passed beats the best, least
-- is of those passed, and total is of all kept. Assumes nothing.
use Rattle.std.proofs.Common.{◌≡◌, true, false, List, ℕ, ℤ, ◌+ℤ◌, ◌<ℤ◌}
use Rattle.ground_sets.specs.Bit.{bit}
use Rattle.paper_board.specs.Paper.View.{Side}
use Rattle.paper_board.specs.Paper.Values.{side_of}
use Rattle.engine_sums.specs.Sums.{bound_at, load, Strikes}
use Rattle.engine_energy.specs.Passed.{Passed}
use Rattle.engine_energy.proofs.strike.Given as goal

pub record Tested (s : Side) (times lengths : List ℤ) (best : ℤ) (set kept left : ℕ) (low all : ℤ) : Type 0 where
  pub passed : Passed s times kept left low
  pub strikes : Strikes s times lengths best set kept
  pub over : (j : ℕ) → bit kept j ≡ true → bit left j ≡ false → best <ℤ (bound_at s times j +ℤ load lengths set)
  pub loaded : all ≡ load lengths kept

abbrev pub invariant-loop-k : goal.invariant-loop-k
invariant-loop-k l =
    Tested (side_of l.bounds.side) l.bounds.times.now l.bounds.lengths.now l.best l.set l.kept l.k-iterator.left l.least l.total
