-- `engine_partners::partners` meets its contract: what each rule leaves, together. Assumes nothing.
use Rattle.std.proofs.lemmas.Int.{to_z-of_z}
use Rattle.engine_partners.specs.RowRead.{row_left}
use Rattle.engine_partners.proofs.partners.Goals as goal

pub returns : goal.returns
returns c =
    let a = c.args in
    let both = c.excluded-both in
    let through = c.joined-through in
    let end = simp (to_z-of_z, c.ranges.end) at c.ordered-late.ensures in
    rw (c.union-2.ensures, c.union.ensures)
    (row_left a.i a.sets.live a.sets.valid a.before a.after a.end a.ends.times.now a.ends.lengths.now a.afters.now
    c.ordered-late.result both.result through.result end both.ensures through.ensures)
