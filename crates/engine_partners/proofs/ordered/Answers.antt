-- `engine_partners::ordered` meets its contract: nothing is late, or the late ones of those to test. Assumes nothing.
use Rattle.std.proofs.Common.{rules, ◌<◌, ◌^◌}
use Rattle.std.proofs.lemmas.Int.{to_z-of_z}
use Rattle.ground_arithmetic.specs.Linear.{whole}
use Rattle.engine_partners.specs.Partners.{none_ordered, late_ordered}
use Rattle.engine_partners.proofs.ordered.Goals as goal

pub returns-then-end-least : goal.returns-then-end-least
returns-then-end-least c =
    let a = c.args in
    let (_, _, all) = c.requires in
    let by = simp (to_z-of_z, c.ranges.end, c.ranges.least) at c.if-end-least.true in
    none_ordered a.ends.times.now a.ends.lengths.now a.i a.sets.live a.sets.valid a.before a.after a.end a.least (omega (whole, by)) all

pub returns : goal.returns
returns c =
    let a = c.args in
    let apart = c.union-apart in
    let end = simp (to_z-of_z, c.ranges.end) at c.late.ensures in
    let live : a.sets.live < 2 ^ 64 = search rules in
    late_ordered a.ends.times.now a.ends.lengths.now a.i a.sets.live a.sets.valid a.before a.after a.end c.kept_apart.result c.late.result
    live c.requires.0 (rw apart.ensures at apart.type_inv) c.kept_apart.ensures
    (rw (c.difference.ensures, c.without.ensures, apart.ensures) at end)
