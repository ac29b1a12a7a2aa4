-- The tally after a sequence of calls: that at its start and one for each call answered 8, stopped at its limit.
use Rattle.std.specs.Prelude.{◌≡◌, refl, true, List, [], ◌∷◌, ◌≤◌, ◌+◌, min}
use Rattle.std.proofs.Common.{ap, arith, ne_eqb}
use Rattle.paper_board.specs.declared.Board.{Board}
use Rattle.paper_board.specs.Paper.Refusals.{number_of}
use Rattle.paper_board.specs.Paper.Limits.{tally_limit}
use Rattle.paper_board.specs.Paper.View.{view}
use Rattle.paper_rules.specs.Paper.Entries.{shown}
use Rattle.paper_closure.specs.Passes.{passes}
use Rattle.paper_closure.proofs.PassesClosed.{passes_books}
use Rattle.paper_entries.specs.declared.Entered.{Entered}
use Rattle.paper_entries.specs.Paper.Entry.{Entry, addition, other}
use Rattle.paper_entries.specs.Paper.Enter.{enter}
use Rattle.paper_entries.specs.Paper.Outcome.{Outcome, by_table, impossible, accepted}
use Rattle.paper_entries.specs.Paper.Replies.{reply_of}
use Rattle.paper_entries.specs.Paper.Sequence.{Call, after, one_impossible, impossibles}
use Rattle.paper_entries.specs.AnsweredImpossible.{by_table_middle}
use Rattle.paper_entries.proofs.EnterOutcome.{enter_checked}
use Rattle.paper_entries.proofs.Later.{call_later}

tallied_once : (b : Board) (e : Entry) (x : Entered) → b.books.tally ≤ tally_limit → Outcome (shown (view b)) b e x
    → x.board.books.tally ≡ min (b.books.tally + one_impossible (reply_of x.answer)) tally_limit
tallied_once b e _ l (by_table r g) = rw (ne_eqb (number_of r) 8 (λ q. omega (arith, by_table_middle b.jobs e r g))) (omega arith)
tallied_once b e _ l (impossible g k) = refl
tallied_once b (addition x y d m) _ l (accepted g c h t) = omega (arith, ap (λ k. k.tally) t)
tallied_once b (other s) _ l (accepted g c h t) = omega (arith, ap (λ k. k.tally) t)

pub tallied : (b : Board) (cs : List Call) → passes b ≡ true → (after b cs).books.tally ≡ min (b.books.tally + impossibles b cs) tally_limit
unfolding after impossibles
tallied b [] p = omega (arith, (passes_books b p).tally)
tallied b (c ∷ cs) p =
    let now = tallied_once b c.entry (enter b c.entry) (passes_books b p).tally (enter_checked b c.entry p) in
    let rest = tallied (enter b c.entry).board cs (call_later b c.entry p).passes in
    omega (arith, now, rest)
