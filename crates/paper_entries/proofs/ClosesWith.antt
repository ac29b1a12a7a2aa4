-- The closure with an entry is the least board above b that shows the entry and obeys the rules, or there is none.
use Rattle.std.proofs.Math.Option.{Option}
use Rattle.paper_board.specs.declared.Board.{Board}
use Rattle.paper_board.specs.Paper.View.{View, view}
use Rattle.paper_rules.specs.Inference.Infers.{Obeys}
use Rattle.paper_rules.specs.Paper.Entries.{shown}
use Rattle.paper_board.specs.Paper.Limits.{Within}
use Rattle.paper_rules.specs.Update.Extension.{Extension, Extends}
use Rattle.paper_rules.specs.Update.ExtendsThen.{extends_then}
use Rattle.paper_closure.proofs.Closes.{closure_closes}
use Rattle.paper_closure.specs.Closure.{closure}
use Rattle.paper_entries.specs.Paper.Entry.{Entry, with_entry}
use Rattle.paper_entries.specs.ShowsEntry.{ShowsEntry, entry_up}
use Rattle.paper_entries.proofs.Allowed.{Allowed}
use Rattle.paper_entries.specs.Paper.Enter.{raw, closure_with}
use Rattle.paper_entries.proofs.RawShown.{raw_shown}

-- a view shows the entry, made on b, and obeys the rules
abbrev ObeysWith : Board → Entry → View → Type 0
ObeysWith b e w = ShowsEntry b.jobs e w × Obeys w

abbrev pub ClosedWith : Board → Entry → Board → Type 0
ClosedWith b e = Extension (with_entry (shown (view b)) e).jobs (ObeysWith b e) b

abbrev pub ClosedToWith : Board → Entry → Option Board → Type 0
ClosedToWith b e = Extends (with_entry (shown (view b)) e).jobs (ObeysWith b e) b

pub closes_with : (b : Board) → Within b → (e : Entry) → Allowed b.jobs e → ClosedToWith b e (closure_with b e)
unfolding closure_with
closes_with b h e ok =
    extends_then (with_entry (shown (view b)) e).jobs (ShowsEntry b.jobs e) Obeys (ObeysWith b e) b
    (λ v w. entry_up b.jobs e v w)
    (λ w shows obeys. (shows, obeys))
    (λ w up obeys both. both)
    (raw b e)
    closure
    (raw_shown b h e ok)
    λ c x. closure_closes c x.more.within
