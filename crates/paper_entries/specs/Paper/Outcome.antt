-- What a call must answer, and the board that it must hand back, over entries that the board shows: the table in its order,
-- 8 exactly when the closure is a contradiction, and else the least closed board.
use Rattle.std.specs.Prelude.{◌≡◌}
use Rattle.std.proofs.Math.Option.{none, some}
use Rattle.paper_board.specs.declared.Board.{Board}
use Rattle.paper_board.specs.declared.Refusal.{Refusal}
use Rattle.paper_board.specs.declared.Refusal.TheVariants as Refused
use Rattle.paper_rules.specs.Paper.Entries.{Entries}
use Rattle.paper_rules.specs.Paper.Closed.{LeastClosed, Contradiction}
use Rattle.paper_entries.specs.declared.Entered.{Entered}
use Rattle.paper_entries.specs.Paper.Entry.{Entry, with_entry}
use Rattle.paper_entries.specs.Paper.Checks.{checks, first_refusal}
use Rattle.paper_entries.specs.Paper.Enter.{acceptance, counted, refused}

-- The three ways in which a call on a board that passes check 0 can end, where `Contradicts` says when the closure with the
-- entry is a contradiction, and `Becomes` which board it is otherwise. They exclude each other.
pub data Ends (b : Board) (e : Entry) (Contradicts : Type 0) (Becomes : Board → Type 0) : Entered → Type 0 where
  -- the first of the checks 1 to 7 that refuses the entry; "alters nothing"
  by_table : (r : Refusal) → first_refusal (checks b.jobs e) ≡ some r → Ends b e Contradicts Becomes (refused r b)
  -- "the closure with this entry is a contradiction"; "number 8 adds one to the tally"
  impossible : first_refusal (checks b.jobs e) ≡ none → Contradicts → Ends b e Contradicts Becomes (refused Refused.Impossible (counted b))
  -- the board with the entry
  accepted : first_refusal (checks b.jobs e) ≡ none → (c : Board) → Becomes c → c.books ≡ b.books
      → Ends b e Contradicts Becomes (record { answer = acceptance b.jobs e; board = c })

-- 8 exactly when no closed board exists, and otherwise the least closed board over the entries and this one
abbrev pub Outcome : Entries → Board → Entry → Entered → Type 0
Outcome es b e = Ends b e (Contradiction (with_entry es e)) (LeastClosed (with_entry es e))
