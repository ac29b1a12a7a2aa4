-- `engine_energy::energy_bound` meets its contract. The loop's invariant is `InPlay`, which each round keeps, with what the set in
-- play comes to; the measure is the word of that set, of which each round strikes one job at least. Assumes nothing.
use Rattle.paper_board.specs.Paper.Values.{side_of}
use Rattle.engine_sums.specs.Sums.{Comes}
use Rattle.engine_sums.specs.SumLaws.{InPlay, Best}
use Rattle.engine_energy.proofs.energy_bound.Given as goal

abbrev pub invariant-loop-play : goal.invariant-loop-play
invariant-loop-play l =
    InPlay (side_of l.bounds.side) l.bounds.times.now l.bounds.lengths.now l.set l.play.set l.best
    × Best (side_of l.bounds.side) l.bounds.times.now l.bounds.lengths.now l.set l.low l.best
    × Comes (side_of l.bounds.side) l.bounds.times.now l.bounds.lengths.now l.play.set l.play.least l.play.total

abbrev pub decreases-loop-play : goal.decreases-loop-play
decreases-loop-play l = l.play.set
