-- `call_enter::enter` meets its contract: its checks decide the call, or what is decided from the entry.
use Rattle.std.proofs.Common.{sym, ◌∙◌}
use Rattle.paper_entries.specs.Paper.EntryOf.{entry_of}
use Rattle.call_statements.specs.StatedBy.{stated_storable}
use Rattle.call_enter.specs.ConcludedEnter.{refused_enter, concluded_enter}
use Rattle.call_enter.proofs.enter.Goals as goal

pub decide-requires : goal.decide-requires
decide-requires c =
    rw c.stated_by.ensures (c.requires, stated_storable c.args.board.jobs (entry_of c.args.entry) (sym c.in-Ok.ensures))

pub returns-in-Err : goal.returns-in-Err
returns-in-Err c = c.refused.ensures ∙ refused_enter _ _ c.requires _ c.in-Err.ensures

pub returns-in-Ok : goal.returns-in-Ok
returns-in-Ok c =
    (rw (c.acceptance.ensures, c.stated_by.ensures) at c.decide.ensures) ∙ concluded_enter _ _ c.requires c.in-Ok.ensures
