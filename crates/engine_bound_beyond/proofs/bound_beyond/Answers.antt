-- `engine_bound_beyond::bound_beyond` meets its contract: no jobs, or what these jobs leave. Assumes nothing.
use Rattle.engine_bound_beyond.specs.BoundBeyond.{none_beyond}
use Rattle.engine_bound_beyond.proofs.bound_beyond.Goals as goal

pub returns-then-set-eq0 : goal.returns-then-set-eq0
returns-then-set-eq0 c = none_beyond _ _ _ _ _ _ _ c.intersection-set.ensures c.if-set-eq0.true
