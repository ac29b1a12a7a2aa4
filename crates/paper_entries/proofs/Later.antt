-- A call on a board that passes check 0 leaves one that passes it too, and that shows all that it showed before.
use Rattle.std.specs.Prelude.{◌≡◌, true, List, [], ◌∷◌}
use Rattle.paper_board.specs.declared.Board.{Board}
use Rattle.paper_board.specs.Paper.View.{view}
use Rattle.paper_rules.specs.Paper.Entries.{shown, ◌⊑◌}
use Rattle.paper_rules.specs.Order.OrderLaws.{⊑_trans}
use Rattle.paper_closure.specs.Passes.{passes}
use Rattle.paper_closure.proofs.PassesClosed.{obeys_passes}
use Rattle.paper_entries.specs.declared.Entered.{Entered}
use Rattle.paper_entries.specs.Paper.Entry.{Entry}
use Rattle.paper_entries.specs.Paper.Enter.{counted, enter}
use Rattle.paper_entries.specs.Paper.Outcome.{by_table, impossible, accepted}
use Rattle.paper_entries.specs.Paper.Sequence.{Call, after}
use Rattle.paper_entries.specs.ShowsEntry.{with_split}
use Rattle.paper_entries.proofs.Reached.{Reached, reached_counted}
use Rattle.paper_entries.proofs.EnterOutcome.{Step, step, reached_shown}

-- c passes check 0 and shows what b shows
pub record Later (b c : Board) : Type 0 where
  pub passes : passes c ≡ true
  pub above : view b ⊑ view c

reached_later : (b c : Board) → Reached (shown (view b)) c → Later b c
reached_later b c r = record { passes = obeys_passes c r.within r.books r.obeys; above = r.shows.at_least }

-- a call leaves a board that shows all that it showed before
module _ (b : Board) (e : Entry) (p : passes b ≡ true) where
  later : (x : Entered) → Step (shown (view b)) b e x → Later b x.board
  later _ (by_table r g) = reached_later b b (reached_shown b p)
  later _ (impossible g i) = reached_later b (counted b) (reached_counted (shown (view b)) b (reached_shown b p))
  later _ (accepted g c r t) =
      record { passes = obeys_passes c r.within r.books r.obeys; above = (with_split (shown (view b)) (view c) e r.shows.at_least).0 }

  pub call_later : Later b (enter b e).board
  call_later = later (enter b e) (step (shown (view b)) b e (reached_shown b p))

pub calls_later : (b : Board) (cs : List Call) → passes b ≡ true → Later b (after b cs)
unfolding after
calls_later b [] p = reached_later b b (reached_shown b p)
calls_later b (c ∷ cs) p =
    let one = call_later b c.entry p in
    let rest = calls_later (enter b c.entry).board cs one.passes in
    record { passes = rest.passes; above = ⊑_trans _ _ _ one.above rest.above }
