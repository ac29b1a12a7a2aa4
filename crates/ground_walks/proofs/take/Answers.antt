-- `ground_walks::take` meets its contract: the job of one end of the set or of the other is taken out; a word and one less than it share all but
-- the least member. Assumes nothing.
use Rattle.ground_sets.specs.Bit.{intersection}
use Rattle.ground_walks.specs.Takes.{Next}
use Rattle.ground_walks.specs.Walk.{less_without, takes}
use Rattle.ground_walks.proofs.take.Goals as goal

pub returns-then-downward : goal.returns-then-downward
unfolding Next
returns-then-downward c =
    takes 64 _ _ _ _ c.ranges.w.fits (rw c.if-downward.true c.highest-job.ensures) c.without.ensures

pub returns : goal.returns
unfolding intersection Next
returns c =
    let fits = c.ranges.w.fits in
    let low = c.lowest.ensures in
    rw c.if-downward.false (takes 64 _ _ _ _ fits low (less_without 64 _ _ fits low))
