-- `engine_partners::latest_start` meets its contract. The loop's invariant: those passed end in time when started at the least start
-- so far. Assumes nothing.
use Rattle.std.proofs.Common.{◌∙◌, w32}
use Rattle.std.proofs.lemmas.Int.{to_z-of_z}
use Rattle.ground_sets.specs.BitLaws.{bit_zero}
use Rattle.engine_sums.specs.SumLaws.{time_fits, length_fits}
use Rattle.engine_partners.specs.Partners.{in_time_lesser}
use Rattle.engine_partners.proofs.latest_start.Goals as goal

pub loop-k-preserved : goal.loop-k-preserved
loop-k-preserved c =
    let k = c.in-Some.k in
    let ends = c.args.ends in
    let gap = c.gap in
    let gap_is = to_z-of_z w32 _ (record { sfits = gap.type_inv }) ∙ simp (to_z-of_z, time_fits (ends.hours.time k), length_fits ends.work k) at gap.ensures in
    let least = to_z-of_z w32 _ (record { sfits = c.lesser-least.type_inv }) ∙ (rw gap_is at c.lesser-least.ensures) in
    rw least (in_time_lesser ends.times.now ends.lengths.now c.args.set _ c.in-Some.ensures.steps.1 c.loop-k.invariant)

pub returns : goal.returns
returns c = λ k e. c.loop-k.invariant k e (rw c.in-None.ensures.steps.1.0 (bit_zero k))
