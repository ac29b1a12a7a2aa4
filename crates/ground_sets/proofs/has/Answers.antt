-- `ground_sets::has` meets its contract: its test by shift and mask is the test of the bit. Assumes nothing.
use Rattle.ground_sets.specs.BitLaws.{bit_tested}
use Rattle.ground_sets.proofs.has.Goals as goal

pub returns : goal.returns
returns c = bit_tested _ _
