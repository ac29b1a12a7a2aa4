-- `ground_walks::highest` meets its contract: the leading zeros of a word that is not 0 begin above its greatest member. Assumes nothing.
use Rattle.ground_walks.specs.Walk.{leading_highest}
use Rattle.ground_walks.proofs.highest.Goals as goal

pub returns : goal.returns
returns c = leading_highest 64 c.args.w c.requires c.ranges.w.fits
