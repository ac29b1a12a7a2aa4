-- `engine_propagation::turn_windows` meets its contract: R4 or R5 leads on, or tells jobs that can't stay. Assumes nothing.
use Rattle.engine_propagation.specs.Turns.{early_alone, late_alone, shut_early, shut_late}
use Rattle.engine_propagation.proofs.turn_windows.Goals as goal

pub returns-in-Early-clause-onward : goal.returns-in-Early-clause-onward
returns-in-Early-clause-onward c = early_alone _ _ _ _ _ _ _ _ (rw c.on.ensures.beyond at c.turn_side.ensures.raises)

pub returns-in-Early-clause-shut : goal.returns-in-Early-clause-shut
returns-in-Early-clause-shut c = shut_early _ _ _ _ _ _ _ _ (rw c.on.ensures.beyond at c.turn_side.ensures.shuts)

pub returns-in-Late-clause-onward : goal.returns-in-Late-clause-onward
returns-in-Late-clause-onward c = late_alone _ _ _ _ _ _ _ _ (rw c.on-in-Late.ensures.beyond at c.turn_side-in-Late.ensures.raises)

pub returns-in-Late-clause-shut : goal.returns-in-Late-clause-shut
returns-in-Late-clause-shut c = shut_late _ _ _ _ _ _ _ _ (rw c.on-in-Late.ensures.beyond at c.turn_side-in-Late.ensures.shuts)
