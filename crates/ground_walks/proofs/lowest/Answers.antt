-- `ground_walks::lowest` meets its contract: the trailing zeros of a word that is not 0 end at its least member. Assumes nothing.
use Rattle.ground_walks.specs.Walk.{trailing_lowest}
use Rattle.ground_walks.proofs.lowest.Goals as goal

pub returns : goal.returns
returns c = trailing_lowest 64 c.args.w c.requires c.ranges.w.fits
