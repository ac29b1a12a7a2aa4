-- `call_attempts::attempt` meets its contract: the board that shows what is stated is within its limits, so that it can be closed.
use Rattle.call_statements.specs.Stated.{stated_within}
use Rattle.call_attempts.proofs.attempt.Goals as goal

pub closure-requires : goal.closure-requires
closure-requires c = stated_within _ c.requires.0 _ c.requires.1 _ c.in_ok-due.ensures.shown
