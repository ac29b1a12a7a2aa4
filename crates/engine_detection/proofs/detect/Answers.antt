-- `engine_detection::detect` meets its contract: R3 infers the arc. Assumes nothing.
use Rattle.std.proofs.Common.{◌∙◌, to_z-of_z, w32}
use Rattle.paper_board.specs.Paper.View.{early}
use Rattle.paper_board.specs.BoardTests.Ranges.{time_moderate}
use Rattle.engine_sums.specs.SumLaws.{time_fits, length_fits, length_at_moderate, end_at_moderate}
use Rattle.engine_arcs.specs.Arcs.{sound_none}
use Rattle.engine_detection.specs.Detection.{Pair, detected}
use Rattle.engine_detection.proofs.detect.Goals as goal

pub sum-end-requires : goal.sum-end-requires
sum-end-requires c =
    let (hours, fixed, work) = c.requires.2 in
    let k = c.args.first in
    simp (to_z-of_z, time_fits (hours.time k), length_fits work k) (time_moderate (hours.time k), length_at_moderate work k)

pub is_late-requires : goal.is_late-requires
is_late-requires c =
    let (hours, fixed, work) = c.requires.2 in
    let j = c.args.first in
    let k = c.args.second in
    let end_is = to_z-of_z {w = w32} (record { sfits = c.sum-end.type_inv }) ∙ (simp (to_z-of_z, time_fits (hours.time j), length_fits work j) at c.sum-end.ensures) in
    simp (to_z-of_z, length_fits work k) (rw end_is (end_at_moderate early hours work j), length_at_moderate work k)

pub returns-then-is_late-clause-sound : goal.returns-then-is_late-clause-sound
returns-then-is_late-clause-sound c =
    let (hours, fixed, work) = c.requires.2 in
    let j = c.args.first in
    let k = c.args.second in
    let end_is = to_z-of_z {w = w32} (record { sfits = c.sum-end.type_inv }) ∙ (simp (to_z-of_z, time_fits (hours.time j), length_fits work j) at c.sum-end.ensures) in
    let late = simp (to_z-of_z, length_fits work k, time_fits (fixed.time k)) at (rw end_is at c.is_late.ensures) in
    detected _ _ _ _ _ _ _ _ _ (rw late at c.if-is_late.true) c.link.ensures.before_after c.link.ensures.after_after

pub returns-else-is_late-clause-sound : goal.returns-else-is_late-clause-sound
returns-else-is_late-clause-sound c = sound_none (Pair _ _ _ _ _) _ _
