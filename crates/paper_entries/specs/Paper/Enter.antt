-- `enter`: the answer to an entry and the board after it, for every board handed in and all numbers.
use Rattle.std.specs.Prelude.{true, false, List, [], ◌∷◌, ℕ, ◌+◌, min, Some, None, Ok, Err}
use Rattle.std.proofs.Math.Option.{Option, none, some}
use Rattle.paper_board.specs.declared.Board.{Board}
use Rattle.paper_board.specs.declared.Refusal.{Refusal}
use Rattle.paper_board.specs.declared.Refusal.TheVariants as Refused
use Rattle.paper_board.specs.Paper.Facts.{Fact}
use Rattle.paper_board.specs.Paper.Limits.{tally_limit}
use Rattle.paper_board.specs.Paper.Parts.{with_books, with_tally}
use Rattle.paper_rules.specs.Update.Updates.{update, append, ◌and_then◌}
use Rattle.paper_closure.specs.Closure.{closure}
use Rattle.paper_closure.specs.Passes.{passes}
use Rattle.paper_entries.specs.declared.Entered.{Entered}
use Rattle.paper_entries.specs.Paper.Entry.{Entry, addition, other, added_row, stated}
use Rattle.paper_entries.specs.Paper.Checks.{checks, first_refusal}
use Rattle.paper_entries.specs.Paper.Answers.{Answer}

-- the facts shown, one after the other, or none where a mark would have to change
unfoldable pub update_all : Board → List Fact → Option Board
update_all b [] = some b
update_all b (f ∷ fs) = update b f and_then (λ c. update_all c fs)

-- the entry shown by the board, nothing inferred yet
unfoldable pub raw : Board → Entry → Option Board
raw b (addition l e d m) = some (append b (added_row l e d m))
raw b (other s) = update_all b (stated s)

-- the closure with the entry, or none where it is a contradiction
unfoldable pub closure_with : Board → Entry → Option Board
closure_with b e = raw b e and_then closure

-- "The board carries a tally of calls answered 8. It starts at 0 and stops at 1000000."
abbrev pub counted : Board → Board
counted b = with_books b (with_tally b.books (min (b.books.tally + 1) tally_limit))

-- acceptance by a board of n jobs; an addition "gives the job's number"
abbrev pub acceptance : ℕ → Entry → Answer
acceptance n (addition l e d m) = Ok (Some n)
acceptance n (other s) = Ok None

-- "A refusal carries its number only and alters nothing"
abbrev pub refused : Refusal → Board → Entered
refused r b = record { answer = Err r; board = b }

-- what the closure says: acceptance as answer a; or refusal 8, and "number 8 adds one to the tally"
abbrev pub concluded : Board → Answer → Option Board → Entered
concluded b a none = refused Refused.Impossible (counted b)
concluded b a (some c) = record { answer = a; board = c }

-- the first check of the table that refuses, or the closure
abbrev pub judged : Board → Entry → Option Refusal → Entered
judged b e (some r) = refused r b
judged b e none = concluded b (acceptance b.jobs e) (closure_with b e)

-- "Checks go 0, [..] then 1 to 9, as far as a call has them."
unfoldable pub enter : Board → Entry → Entered
enter b e = elim (passes b) [ false ↦ refused Refused.Board b | true ↦ judged b e (first_refusal (checks b.jobs e)) ]
