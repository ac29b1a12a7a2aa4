-- `scan` meets its contract: each byte of the format keeps the state of the loop.
use Rattle.std.proofs.Common.{drop}
use Rattle.text_scans.specs.ScanState.{ScanState}
use Rattle.text_scans.proofs.scan.Given as goal

abbrev pub invariant-loop-byte : goal.invariant-loop-byte
invariant-loop-byte g l = ScanState g.row.N l.format l.text (drop l.byte-index l.format) l.rest l.numbers l.count
