-- `engine_partners::reach` meets its contract. The loop's invariant is `Looked`; the measure is the word of what is left. Assumes
-- nothing.
use Rattle.ground_sets.specs.BitLaws.{bit_zero}
use Rattle.engine_partners.specs.Partners.{none_looked, look, look_falls}
use Rattle.engine_partners.proofs.reach.Goals as goal

pub loop-k-init : goal.loop-k-init
loop-k-init c = rw c.of-jobs.ensures.0 (none_looked c.args.after.now c.args.set c.ranges.set.fits)

pub loop-k-smaller : goal.loop-k-smaller
loop-k-smaller c =
    let all = c.union-all in
    rw (c.difference.ensures, all.ensures) (look_falls c.loop-k.invariant c.in-Some.ensures.steps.1 (rw all.ensures at all.type_inv))

pub loop-k-preserved : goal.loop-k-preserved
loop-k-preserved c =
    let all = c.union-all in
    rw (c.difference.ensures, all.ensures) (look c.loop-k.invariant c.in-Some.ensures.steps.1 (rw all.ensures at all.type_inv))

pub returns : goal.returns
returns c = λ x e. c.loop-k.invariant.done x e (rw c.in_default.ensures.steps.1.0 (bit_zero x))
