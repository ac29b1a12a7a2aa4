-- `engine_makespan::in_order` meets its contract: eight jobs after eight. Assumes nothing.
use Rattle.engine_makespan.specs.Makespan.{none_in_range, none_sequenced, all_sequenced}
use Rattle.engine_makespan.proofs.in_order.Goals as goal

pub loop-n-init : goal.loop-n-init
loop-n-init c = record { ends = none_in_range c.args.bounds.work _; sequenced = none_sequenced _ }

pub returns-after-loop-n-clause-exceeds : goal.returns-after-loop-n-clause-exceeds
returns-after-loop-n-clause-exceeds c = all_sequenced c.loop-n.invariant.sequenced

pub returns-then-sequence-eq0-clause-exceeds : goal.returns-then-sequence-eq0-clause-exceeds
returns-then-sequence-eq0-clause-exceeds c = all_sequenced c.loop-n.invariant.sequenced
