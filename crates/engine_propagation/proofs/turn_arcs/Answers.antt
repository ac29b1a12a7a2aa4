-- `engine_propagation::turn_arcs` meets its contract: R2 tells jobs that can't stay, R1 leads on. Assumes nothing.
use Rattle.engine_propagation.specs.Turns.{arcs_joined, stays, shut_none, shut_crossed}
use Rattle.engine_propagation.proofs.turn_arcs.Goals as goal

pub returns-then-left-ne0-clause-onward : goal.returns-then-left-ne0-clause-onward
returns-then-left-ne0-clause-onward c = stays _ _ _ _ _ _ _

pub returns-then-left-ne0-clause-shut : goal.returns-then-left-ne0-clause-shut
returns-then-left-ne0-clause-shut c = shut_crossed _ _ _ _ _ _ _ _ _ _ c.intersection-set.ensures c.excluded.ensures

pub returns-clause-onward : goal.returns-clause-onward
returns-clause-onward c =
    let e = c.join_arcs-found.ensures in
    rw e.kept (arcs_joined _ _ _ _ _ _ _ _ _ _ _ c.intersection-through.ensures e.sound)

pub returns-clause-shut : goal.returns-clause-shut
returns-clause-shut c = shut_none _ _ _ _ _ _ _
