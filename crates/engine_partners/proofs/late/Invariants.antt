-- `engine_partners::late` meets its contract. The loop's invariant: those passed end in time. The measure is the word of what is
-- left. Assumes nothing.
use Rattle.engine_partners.specs.Partners.{LateLeft}
use Rattle.engine_partners.proofs.late.Given as goal

abbrev pub invariant-loop-k : goal.invariant-loop-k
invariant-loop-k l = LateLeft l.ends.times.now l.ends.lengths.now l.set l.end l.jobs.left

abbrev pub decreases-loop-k : goal.decreases-loop-k
decreases-loop-k l = l.jobs.left
