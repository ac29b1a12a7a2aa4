-- `ground_sets::intersection` meets its contract: the definition is the code's own operation. Assumes nothing.
use Rattle.std.proofs.Common.{refl}
use Rattle.ground_sets.specs.Bit.{intersection}
use Rattle.ground_sets.proofs.intersection.Goals as goal

pub returns : goal.returns
unfolding intersection
returns c = refl
