-- `engine_partners::joined` meets its contract: nothing is missing, or all are left. Assumes nothing.
use Rattle.engine_partners.specs.Partners.{none_joined, all_joined}
use Rattle.engine_partners.proofs.joined.Goals as goal

pub returns-then-difference-eq0 : goal.returns-then-difference-eq0
returns-then-difference-eq0 c =
    let met = c.intersection-through in
    let a = c.args in
    let empty = rw (c.difference.ensures, c.without.ensures) at c.if-difference-eq0.true in
    none_joined a.afters.now a.i a.valid a.after met.result met.ensures c.reach-onward.result c.reach-onward.type_inv c.ranges.after.fits c.requires
    c.reach-onward.ensures empty

pub returns : goal.returns
returns c =
    let met = c.intersection-through in
    let a = c.args in
    all_joined a.afters.now a.i a.valid a.after met.result met.ensures
