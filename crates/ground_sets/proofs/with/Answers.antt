-- `ground_sets::with` meets its contract: `1 << k` is the set of job k alone. Assumes nothing.
use mathlib.Core.Path.{ap}
use Rattle.ground_sets.specs.Bit.{with, union}
use Rattle.ground_sets.specs.BitLaws.{singleton_shifted}
use Rattle.ground_sets.proofs.with.Goals as goal

pub returns : goal.returns
unfolding with union
returns c = ap (union c.args.w) (singleton_shifted 64 c.args.k c.requires)
