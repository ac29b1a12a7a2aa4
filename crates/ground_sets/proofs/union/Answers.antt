-- `ground_sets::union` meets its contract: the definition is the code's own operation. Assumes nothing.
use Rattle.std.proofs.Common.{refl}
use Rattle.ground_sets.specs.Bit.{union}
use Rattle.ground_sets.proofs.union.Goals as goal

pub returns : goal.returns
unfolding union
returns c = refl
