-- `engine_partners::reach` meets its contract. The loop's invariant is `Looked`; the measure is the word of what is left. Assumes
-- nothing.
use Rattle.engine_partners.specs.Partners.{Looked}
use Rattle.engine_partners.proofs.reach.Given as goal

abbrev pub invariant-loop-k : goal.invariant-loop-k
invariant-loop-k l = Looked l.after l.set l.jobs.left l.all

abbrev pub decreases-loop-k : goal.decreases-loop-k
decreases-loop-k l = l.jobs.left
