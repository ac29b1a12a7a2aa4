-- `ground_sets::difference` meets its contract: the definition is the code's own operation. Assumes nothing.
use Rattle.std.proofs.Common.{refl}
use Rattle.ground_sets.specs.Bit.{difference}
use Rattle.ground_sets.proofs.difference.Goals as goal

pub returns : goal.returns
unfolding difference
returns c = refl
