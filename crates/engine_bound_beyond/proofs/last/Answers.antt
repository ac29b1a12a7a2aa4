-- `engine_bound_beyond::last` meets its contract: what is left of the set is of the set. Assumes nothing.
use Rattle.std.proofs.Common.{sym, ap, ◌∙◌, get_or}
use Rattle.ground_sets.specs.Bit.{bit}
use Rattle.ground_sets.specs.BitLaws.{bit_intersection}
use Rattle.ground_arithmetic.specs.Bools.{and_parts}
use Rattle.engine_bound_beyond.proofs.last.Goals as goal

pub loop-preserved : goal.loop-preserved
loop-preserved c =
    let a = c.args in
    let low = c.lowest-k-in-loop in
    let word = get_or a.opposite.now c.loop.k 0 in
    let both = sym (ap (λ w. bit w low.result) c.intersection-further.ensures ∙ bit_intersection word a.set low.result) ∙ low.ensures.member in
    (low.ensures.width, (and_parts (bit word low.result) (bit a.set low.result) both).1)
