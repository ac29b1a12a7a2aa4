-- The jobs passed are struck out.
use Rattle.std.proofs.Common.{◌≡◌}
use Rattle.paper_rules.specs.Update.Strike.{strike_below}
use Rattle.engine_strikes.proofs.strike.Given as goal

abbrev pub invariant-loop-k : goal.invariant-loop-k
invariant-loop-k l = l.board ≡ strike_below l.initial.board l.set l.k
