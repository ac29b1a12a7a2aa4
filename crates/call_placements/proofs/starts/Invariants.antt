-- The loop of `call_placements::starts` keeps the starts of the jobs so far, and the minute from which the dock is free after them.
use Rattle.std.proofs.Common.{take, reverse}
use Rattle.call_placements.specs.Stack.{jobs_of}
use Rattle.call_placements.specs.Starts.{Listed}
use Rattle.call_placements.proofs.starts.Given as goal

abbrev pub invariant-loop-placed : goal.invariant-loop-placed
invariant-loop-placed l = Listed l.board (jobs_of (reverse (take l.placed-index l.placed-items))) l.starts l.free
