-- The computed closure in the paper's words: the least closed board over what the board shows; "If no closed board exists,
-- the closure is a contradiction."
use Rattle.std.proofs.Math.Path.{subst⁻¹}
use Rattle.std.proofs.Math.Option.{Option, none, some}
use Rattle.paper_board.specs.declared.Board.{Board}
use Rattle.paper_board.specs.Paper.View.{view}
use Rattle.paper_board.specs.Paper.Limits.{Within, BooksWithin}
use Rattle.paper_rules.specs.Paper.Entries.{Entries, shown}
use Rattle.paper_rules.specs.Paper.Closed.{Least, Contradiction}
use Rattle.paper_rules.proofs.Leastness.{below_least, impossible_contradiction}
use Rattle.paper_rules.proofs.ObeysRules.{obeys_rules}
use Rattle.paper_closure.specs.Closure.{closure}
use Rattle.paper_closure.proofs.Closes.{ClosedTo, closure_closes}

abbrev pub LeastOrNone : Entries → Option Board → Type 0
LeastOrNone es (some c) = Least es c
LeastOrNone es none = Contradiction es

-- The computed closure of any board within the limits, with books within theirs, ends, and gives the least closed board over what that
-- board shows, or there is no closed board.
pub closure_least : (b : Board) → Within b → BooksWithin b.books → LeastOrNone (shown (view b)) (closure b)
closure_least b h books = go (closure b) (closure_closes b h)
  where
    go : (o : Option Board) → ClosedTo b o → LeastOrNone (shown (view b)) o
    go (some c) t =
        below_least (shown (view b)) c
        (record {
          within = t.more.within;
          books = subst⁻¹ BooksWithin t.more.books books;
          shows = record { count = t.more.jobs; at_least = t.more.above };
          rules = obeys_rules (view c) t.meets;
        })
        λ w up ob. t.least w up ob ob
    go none t = impossible_contradiction (shown (view b)) λ w up ob. t w up ob ob
