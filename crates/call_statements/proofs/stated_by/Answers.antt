-- `call_statements::stated_by` meets its contract: the numbers that the checks let pass can be cast.
use Rattle.std.proofs.Common.{rules, w32, FitsSigned, to_z-of_z}
use Rattle.paper_entries.specs.Paper.EntryOf.{entry_of}
use Rattle.call_statements.specs.StatedBy.{numbers_fit}
use Rattle.call_statements.proofs.stated_by.Goals as goal

pub mark_value-requires : goal.mark_value-requires
mark_value-requires c =
    let mark : FitsSigned w32 c.in-Addition.mark = search rules in
    simp (to_z-of_z, mark) (rw c.in-Addition.is at (numbers_fit (entry_of c.args.entry) c.requires))

pub index-requires : goal.index-requires
index-requires c =
    let from : FitsSigned w32 c.in-Arc.from = search rules in
    simp (to_z-of_z, from) (rw c.in-Arc.is at (numbers_fit (entry_of c.args.entry) c.requires)).0

pub index-requires-in-Arc : goal.index-requires-in-Arc
index-requires-in-Arc c =
    let to : FitsSigned w32 c.in-Arc.to = search rules in
    simp (to_z-of_z, to) (rw c.in-Arc.is at (numbers_fit (entry_of c.args.entry) c.requires)).1

pub index-requires-in-Mark : goal.index-requires-in-Mark
index-requires-in-Mark c =
    let job : FitsSigned w32 c.in-Mark.job = search rules in
    simp (to_z-of_z, job) (rw c.in-Mark.is at (numbers_fit (entry_of c.args.entry) c.requires)).0

pub mark_value-requires-in-Mark : goal.mark_value-requires-in-Mark
mark_value-requires-in-Mark c =
    let mark : FitsSigned w32 c.in-Mark.mark = search rules in
    let (_, low, high) = rw c.in-Mark.is at (numbers_fit (entry_of c.args.entry) c.requires) in
    simp (to_z-of_z, mark) (low, high)

pub index-requires-in-Cut : goal.index-requires-in-Cut
index-requires-in-Cut c =
    let job : FitsSigned w32 c.in-Cut.job = search rules in
    simp (to_z-of_z, job) (rw c.in-Cut.is at (numbers_fit (entry_of c.args.entry) c.requires))
