-- `put_found` meets its contract: the three texts one after the other.
use Rattle.std.proofs.Common.{arith, le_refl}
use Rattle.text_decimals.specs.Written.{append_written}
use Rattle.text_plans.proofs.put_found.Goals as goal

pub returns : goal.returns
returns c = append_written (append_written (rw c.into.ensures at c.print.ensures) c.put_placements.ensures (le_refl _)) c.print-2.ensures (omega arith)
