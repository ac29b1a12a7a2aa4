-- One call on a board that entries reached: it ends as `Outcome` says, and the board after it is reached again.
use Rattle.std.specs.Prelude.{◌≡◌, refl, true, false}
use Rattle.std.proofs.Math.Option.{Option, none, some}
use Rattle.paper_board.specs.declared.Board.{Board}
use Rattle.paper_board.specs.declared.Refusal.{Refusal}
use Rattle.paper_board.specs.declared.Refusal.TheVariants as Refused
use Rattle.paper_board.specs.Paper.View.{view}
use Rattle.paper_rules.specs.Paper.Entries.{Entries, shown}
use Rattle.paper_rules.specs.Paper.Closed.{Least}
use Rattle.paper_rules.proofs.Leastness.{Impossible, below_least, below_shown, impossible_contradiction}
use Rattle.paper_rules.specs.Update.Extension.{above_self}
use Rattle.paper_rules.proofs.ObeysRules.{obeys_rules}
use Rattle.paper_rules.proofs.LeastClosed.{least_closed}
use Rattle.paper_closure.specs.Passes.{passes}
use Rattle.paper_closure.proofs.PassesClosed.{passes_within, passes_books, passes_obeys, obeys_passes}
use Rattle.paper_entries.specs.declared.Entered.{Entered}
use Rattle.paper_entries.specs.Paper.Entry.{Entry, with_entry}
use Rattle.paper_entries.specs.Paper.Checks.{checks, first_refusal}
use Rattle.paper_entries.proofs.Allowed.{checks_allow}
use Rattle.paper_entries.specs.Paper.Enter.{closure_with, acceptance, refused, concluded, judged, enter}
use Rattle.paper_entries.proofs.ClosesWith.{ClosedToWith, closes_with}
use Rattle.paper_entries.proofs.Reached.{Reached, reached_with, impossible_with}
use Rattle.paper_entries.specs.Paper.Outcome.{Ends, Outcome, by_table, impossible, accepted}

-- the outcome in the form that passes to the next call
abbrev pub Step : Entries → Board → Entry → Entered → Type 0
Step es b e = Ends b e (Impossible (with_entry es e)) (Reached (with_entry es e))

pub reached_least : (es : Entries) (b : Board) → Reached es b → Least es b
reached_least es b r =
    below_least es b (record { within = r.within; books = r.books; shows = r.shows; rules = obeys_rules (view b) r.obeys }) r.below

module _ (es : Entries) (b : Board) (e : Entry) (r : Reached es b) where
  closed : first_refusal (checks b.jobs e) ≡ none → (o : Option Board) → ClosedToWith b e o → Step es b e (concluded b (acceptance b.jobs e) o)
  closed g none s = impossible g (impossible_with es b e r s)
  closed g (some c) s = accepted g c (reached_with es b e r c s) s.more.books

  decided : (o : Option Refusal) → first_refusal (checks b.jobs e) ≡ o → Step es b e (judged b e o)
  decided (some x) g = by_table x g
  decided none g = closed g (closure_with b e) (closes_with b r.within e (checks_allow b.jobs e g))

  pub step : Step es b e (enter b e)
  unfolding enter
  step = rw (obeys_passes b r.within r.books r.obeys, enter) (decided (first_refusal (checks b.jobs e)) refl)

  pub enter_outcome : Outcome es b e (enter b e)
  enter_outcome = ends (enter b e) step
    where
      ends : (x : Entered) → Step es b e x → Outcome es b e x
      ends _ (by_table x g) = by_table x g
      ends _ (impossible g i) = impossible g (impossible_contradiction (with_entry es e) i)
      ends _ (accepted g c s t) = accepted g c (least_closed (with_entry es e) c (reached_least (with_entry es e) c s)) t

-- a board that passes check 0 is reached by what it shows
pub reached_shown : (b : Board) → passes b ≡ true → Reached (shown (view b)) b
reached_shown b e =
    record {
      within = passes_within b e;
      books = passes_books b e;
      shows = record { count = refl; at_least = (above_self b (passes_within b e)).above };
      obeys = passes_obeys b e;
      below = below_shown (view b);
    }

-- the whole outcome of a call, for every board handed in
pub enter_checked : (b : Board) (e : Entry) → passes b ≡ true → Outcome (shown (view b)) b e (enter b e)
enter_checked b e p = enter_outcome (shown (view b)) b e (reached_shown b p)

pub enter_refused : (b : Board) (e : Entry) → passes b ≡ false → enter b e ≡ refused Refused.Board b
unfolding enter
enter_refused b e p = rw (p, enter)
