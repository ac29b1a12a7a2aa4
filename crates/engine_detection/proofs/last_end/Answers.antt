-- `engine_detection::last_end` meets its contract: the last end is far from the ends of an i32. Assumes nothing.
use Rattle.std.proofs.Common.{◌∙◌, to_z-of_z, w32, ℤ}
use Rattle.std.specs.Int.Signed.{lt_z}
use Rattle.ground_arithmetic.specs.Bools.{by_test}
use Rattle.ground_arithmetic.specs.Time.{Moderate, greater}
use Rattle.paper_board.specs.Paper.Values.{side_of}
use Rattle.engine_sums.specs.SumLaws.{end_at_moderate}
use Rattle.engine_detection.proofs.last_end.Goals as goal

moderate : (a b : ℤ) → Moderate a → Moderate b → Moderate (greater a b)
moderate a b h k = by_test Moderate (lt_z a b) b a (λ e. k) (λ e. h)

pub loop-k-preserved : goal.loop-k-preserved
loop-k-preserved c =
    let all = c.args.bounds in
    let end = end_at_moderate (side_of all.side) all.hours all.work c.in-Some.k in
    let end_is = to_z-of_z {w = w32} (record { sfits = c.end.type_inv }) ∙ c.end.ensures in
    let last_is = to_z-of_z {w = w32} (record { sfits = c.greater-last.type_inv }) ∙ (rw end_is at c.greater-last.ensures) in
    rw last_is (moderate _ _ c.loop-k.invariant end)
