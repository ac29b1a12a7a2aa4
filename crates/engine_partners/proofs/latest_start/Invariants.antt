-- `engine_partners::latest_start` meets its contract. The loop's invariant: those passed end in time when started at the least start
-- so far. Assumes nothing.
use Rattle.std.proofs.Common.{◌≡◌, true, false, ℕ}
use Rattle.ground_sets.specs.Bit.{bit}
use Rattle.engine_partners.specs.Partners.{InTime}
use Rattle.engine_partners.proofs.latest_start.Given as goal

abbrev pub invariant-loop-k : goal.invariant-loop-k
invariant-loop-k l =
    (k : ℕ) → bit l.set k ≡ true → bit l.k-iterator.left k ≡ false → InTime l.ends.times.now l.ends.lengths.now l.least k
