-- `engine_propagation::turn_order` meets its contract: R6 tells jobs that can't stay, R3 leads on. Assumes nothing.
use Rattle.engine_propagation.specs.Turns.{arcs_detected, stays, shut_none, shut_unfit}
use Rattle.engine_propagation.proofs.turn_order.Goals as goal

pub returns-then-stuck-ne0-clause-onward : goal.returns-then-stuck-ne0-clause-onward
returns-then-stuck-ne0-clause-onward c = stays _ _ _ _ _ _ _

pub returns-then-stuck-ne0-clause-shut : goal.returns-then-stuck-ne0-clause-shut
returns-then-stuck-ne0-clause-shut c = shut_unfit _ _ _ _ _ _ _ _ _ _ c.intersection-moved.ensures c.unfit-stuck.ensures

pub returns-clause-onward : goal.returns-clause-onward
returns-clause-onward c =
    rw c.detect_arcs-found.ensures.kept (arcs_detected _ _ _ _ _ _ _ _ _ c.detect_arcs-found.ensures.sound)

pub returns-clause-shut : goal.returns-clause-shut
returns-clause-shut c = shut_none _ _ _ _ _ _ _
