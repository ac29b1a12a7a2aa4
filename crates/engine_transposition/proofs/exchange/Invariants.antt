-- The words below 2 i are taken.
use Rattle.std.proofs.Common.{◌≡◌, ℕ, ◌<◌, ◌*◌, length}
use Rattle.ground_sets.specs.Bit.{width}
use Rattle.engine_transposition.specs.Transpose.{Taken}
use Rattle.engine_transposition.proofs.exchange.Given as goal

abbrev pub invariant-loop-i : goal.invariant-loop-i
invariant-loop-i l = (length l.to ≡ width) × ((j : ℕ) → j < 2 * l.i → Taken l.shift l.mask l.from l.to j)
