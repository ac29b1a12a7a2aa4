-- `call_raw_entries::state` meets its contract: the second fact can be put on what the first one leaves.
use Rattle.call_statements.specs.Stated.{first_leaves}
use Rattle.call_raw_entries.proofs.state.Goals as goal

pub update-requires-in-Two-2 : goal.update-requires-in-Two-2
update-requires-in-Two-2 c =
    let (known, _, other, applicable) = rw c.in-Two.is at c.requires.1 in
    let (within, about) = first_leaves _ _ _ _ c.requires.0 known other c.in_ok-update-in-Two.ensures.updated in
    (within, about, applicable)
