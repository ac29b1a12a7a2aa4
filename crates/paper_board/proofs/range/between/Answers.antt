-- `paper_board::range::between` meets its contract: the second test is asked where the first holds. Assumes nothing.
use mir.ValLaws.{to_z-of_z}
use Rattle.paper_board.specs.Paper.Tests.{between}
use Rattle.paper_board.proofs.range.between.Goals as goal

pub returns-then-low-z : goal.returns-then-low-z
unfolding between
returns-then-low-z c =
    let f = c.ranges in
    simp (to_z-of_z, f.high, f.z, simp (to_z-of_z, f.low, f.z) at c.if-low-z.true)

pub returns-else-low-z : goal.returns-else-low-z
unfolding between
returns-else-low-z c =
    let f = c.ranges in
    simp (to_z-of_z, f.low, f.z, simp (to_z-of_z, f.low, f.z) at c.if-low-z.false)
