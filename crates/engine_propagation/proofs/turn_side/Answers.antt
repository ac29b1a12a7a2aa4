-- `engine_propagation::turn_side` meets its contract: it is that of the push. Assumes nothing.
use Rattle.engine_propagation.proofs.turn_side.Goals as goal

pub returns : goal.returns
returns c = c.push-step.ensures
