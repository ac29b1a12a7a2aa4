-- `ground_sets::without` meets its contract: `1 << k` is the set of job k alone. Assumes nothing.
use mathlib.Core.Path.{ap}
use Rattle.ground_sets.specs.Bit.{without, difference}
use Rattle.ground_sets.specs.BitLaws.{singleton_shifted}
use Rattle.ground_sets.proofs.without.Goals as goal

pub returns : goal.returns
unfolding without difference
returns c = ap (difference 64 c.args.w) (singleton_shifted 64 c.args.k c.requires)
