-- `print` ends: it calls itself with the rest of the format.
use Rattle.std.proofs.Common.{length}
use Rattle.text_formats.proofs.+print.Given as goal

abbrev pub decreases-print : goal.decreases-print
decreases-print l = length l.format.now
