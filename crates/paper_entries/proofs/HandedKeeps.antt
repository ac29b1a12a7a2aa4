-- Nothing is lost on a board handed in either: its entries are those that it shows, and every schedule of them and of an
-- accepted entry keeps the board after it; with an entry answered 8 they have no schedule.
use Rattle.std.specs.Prelude.{◌≡◌, refl, true, ℕ}
use Rattle.paper_board.specs.declared.Board.{Board}
use Rattle.paper_board.specs.Paper.Refusals.{number_of}
use Rattle.paper_board.specs.Paper.View.{view}
use Rattle.paper_board.specs.Paper.Facts.{Fact, AboutJobs}
use Rattle.paper_board.specs.Paper.Limits.{Within}
use Rattle.paper_rules.specs.Paper.Entries.{Admissible, Drawn, drawn, shown}
use Rattle.paper_rules.specs.Paper.Schedules.{Placing, Schedule, Keeps}
use Rattle.paper_rules.proofs.LeastClosed.{closed_least}
use Rattle.paper_rules.proofs.ScheduleClosed.{least_keeps, contradiction_unscheduled}
use Rattle.paper_closure.specs.Passes.{passes}
use Rattle.paper_closure.proofs.PassesClosed.{passes_within}
use Rattle.paper_entries.specs.Paper.Replies.{no_number, reply_of}
use Rattle.paper_entries.specs.declared.Entered.{Entered}
use Rattle.paper_entries.specs.Paper.Entry.{Entry, with_entry}
use Rattle.paper_entries.specs.Paper.Enter.{enter}
use Rattle.paper_entries.specs.Paper.Outcome.{Outcome, by_table, impossible, accepted}
use Rattle.paper_entries.proofs.Allowed.{checks_allow}
use Rattle.paper_entries.specs.AnsweredImpossible.{answered_impossible}
use Rattle.paper_entries.proofs.Reached.{admissible_with}
use Rattle.paper_entries.proofs.EnterOutcome.{enter_checked}

-- what a board within its limits shows passes the checks
pub admissible_shown : (b : Board) → Within b → Admissible (shown (view b))
admissible_shown b h = record { jobs = h.limits.jobs; rows = λ k. (h.limits.rows k).live; about = about }
  where
    about : (f : Fact) → Drawn (view b) f → AboutJobs b.jobs f
    about _ (drawn i k a) = let (li, lk, ne) = h.limits.arcs i k a in (li.0, lk.0, ne)

module _ (b : Board) (e : Entry) (p : passes b ≡ true) where
  pub handed_keeps : ((r : ℕ) → reply_of (enter b e).answer ≡ no_number r → ⊥) → (s : Placing)
      → Schedule (with_entry (shown (view b)) e) s → Keeps (view (enter b e).board) s
  handed_keeps = ends (enter b e) (enter_checked b e p)
    where
      ends : (x : Entered) → Outcome (shown (view b)) b e x → ((r : ℕ) → reply_of x.answer ≡ no_number r → ⊥)
          → (s : Placing) → Schedule (with_entry (shown (view b)) e) s → Keeps (view x.board) s
      ends _ (by_table r g) taken = absurd (taken (number_of r) refl)
      ends _ (impossible g k) taken = absurd (taken 8 refl)
      ends _ (accepted g c least t) taken =
          least_keeps (with_entry (shown (view b)) e) c
          (admissible_with (shown (view b)) e (admissible_shown b (passes_within b p)) (checks_allow b.jobs e g)) (closed_least _ c least)

  pub handed_unscheduled : reply_of (enter b e).answer ≡ no_number 8 → (s : Placing)
      → Schedule (with_entry (shown (view b)) e) s → ⊥
  handed_unscheduled q =
      let (g, none) = answered_impossible b e _ _ (enter b e) (enter_checked b e p) q in
      contradiction_unscheduled (with_entry (shown (view b)) e)
      (admissible_with (shown (view b)) e (admissible_shown b (passes_within b p)) (checks_allow b.jobs e g)) none
