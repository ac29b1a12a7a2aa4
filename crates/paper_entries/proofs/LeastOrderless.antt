-- The least closed board over entries is unique, so it does not depend on their order.
use Rattle.std.proofs.Common.{◌∙◌}
use Rattle.std.specs.Prelude.{List}
use Rattle.paper_board.specs.declared.Board.{Board}
use Rattle.paper_board.specs.Paper.View.{view}
use Rattle.paper_rules.specs.Paper.Entries.{Entries}
use Rattle.paper_rules.specs.Paper.Closed.{Closed, Least}
use Rattle.paper_board.specs.Paper.Equality.{Same}
use Rattle.paper_rules.specs.Order.LeastUnique.{least_unique}
use Rattle.paper_entries.specs.Paper.Entry.{Entry, entries, SameEntries}
use Rattle.paper_entries.proofs.EntriesAgree.{EntriesAgree, agree_sym, agreed, same_agree}

-- entries that agree have the same closed boards
closed_agree : (es es' : Entries) → EntriesAgree es es' → (b : Board) → Closed es b → Closed es' b
closed_agree es es' a b h =
    record {
      within = h.within;
      books = h.books;
      shows = record { count = h.shows.count ∙ a.jobs; at_least = agreed es es' (view b) a h.shows.at_least };
      rules = h.rules;
    }

least_agree : (es es' : Entries) → EntriesAgree es es' → (b : Board) → Least es b → Least es' b
least_agree es es' a b h =
    record { closed = closed_agree es es' a b h.closed; least = λ c k. h.least c (closed_agree es' es (agree_sym es es' a) c k) }

pub least_orderless : (l l' : List Entry) (b c : Board) → SameEntries l l' → Least (entries l) b → Least (entries l') c → Same b c
least_orderless l l' b c s lb lc =
    least_unique (entries l') b c (least_agree (entries l) (entries l') (same_agree l l' s) b lb) lc
