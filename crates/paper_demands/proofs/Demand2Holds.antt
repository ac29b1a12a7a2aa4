-- Demand 2 holds of every board that is in order, over the entries that it shows: `demand2_handed`; and of the board after any
-- sequence of calls, over all that was accepted: `demand2_after`.
use Rattle.std.specs.Prelude.{◌≡◌, refl, true, List}
use Rattle.std.proofs.Common.{ap}
use Rattle.std.proofs.Math.Option.{none}
use Rattle.ground_arithmetic.specs.Bools.{clash}
use Rattle.paper_board.specs.declared.Board.{Board}
use Rattle.paper_board.specs.declared.Books.{Books}
use Rattle.paper_rules.specs.Paper.Closed.{LeastClosed}
use Rattle.paper_rules.specs.Paper.Entries.{Entries, shown}
use Rattle.paper_board.specs.Paper.Limits.{BooksWithin}
use Rattle.paper_board.specs.Paper.View.{view}
use Rattle.paper_closure.specs.Passes.{passes}
use Rattle.paper_closure.proofs.PassesClosed.{passes_closed, obeys_passes}
use Rattle.paper_entries.specs.declared.Entered.{Entered}
use Rattle.paper_entries.proofs.RefusedExactly.{outcome_exactly}
use Rattle.paper_entries.specs.Paper.Replies.{reply_of}
use Rattle.paper_entries.specs.Paper.Enter.{acceptance, enter}
use Rattle.paper_entries.specs.Paper.Entry.{Entry, entries, with_entry}
use Rattle.paper_entries.specs.Paper.Outcome.{Outcome, by_table, impossible, accepted}
use Rattle.paper_entries.specs.Paper.Sequence.{Call, final_board, accepted_by}
use Rattle.paper_entries.proofs.Reached.{Reached}
use Rattle.paper_entries.proofs.EnterOutcome.{enter_outcome, reached_shown}
use Rattle.paper_plans.proofs.PlanEnding.{plan_ending}
use Rattle.paper_requests.specs.Paper.Requests.{entry_refusal}
use Rattle.paper_demands.specs.Demands.{InOrder, Demand2}
use Rattle.paper_demands.specs.Held.{held}
use Rattle.paper_requests.specs.RefusalLaws.{refused_number}
use Rattle.paper_demands.specs.ViewLaws.{row_shows, pair_shows}

-- an accepted entry
pub record Accepted (es : Entries) (b : Board) (e : Entry) (x : Entered) : Type 0 where
  pub least : LeastClosed (with_entry es e) x.board
  pub tally : x.board.books.tally ≡ b.books.tally
  pub answer : x.answer ≡ acceptance b.jobs e

accepts : (es : Entries) (b : Board) (e : Entry) (x : Entered) → Outcome es b e x → entry_refusal (reply_of x.answer) ≡ none
    → Accepted es b e x
accepts es b e _ (by_table r g) q = clash (cc)
accepts es b e _ (impossible g k) q = clash (cc)
accepts es b e _ (accepted g c l t) q = record { least = l; tally = ap (λ k. k.tally) t; answer = refl }

demand2 : (es : Entries) (b : Board) → Reached es b → Demand2 es b
demand2 es b r =
    let p : passes b ≡ true = obeys_passes b r.within r.books r.obeys in
    let ends : (e : Entry) → Outcome es b e (enter b e) = λ e. enter_outcome es b e r in
    record {
      least = λ e q. (accepts es b e (enter b e) (ends e) q).least;
      tally = λ e q. (accepts es b e (enter b e) (ends e) q).tally;
      answer = λ e q. (accepts es b e (enter b e) (ends e) q).answer;
      impossible = λ e g.
          let exactly = outcome_exactly es b e (enter b e) (ends e) g in
          (λ q. exactly.0 (refused_number (reply_of (enter b e).answer) 8 q), λ k. ap entry_refusal (exactly.1 k));
      rows = row_shows b p;
      pairs = pair_shows b p;
      plans = plan_ending b p;
    }

pub demand2_handed : (b : Board) → InOrder b → Demand2 (shown (view b)) b
demand2_handed b c = demand2 (shown (view b)) b (reached_shown b ((passes_closed b).1 c))

pub demand2_after : (books : Books) → BooksWithin books → (cs : List Call) → Demand2 (entries (accepted_by books cs)) (final_board books cs)
demand2_after books fits cs = demand2 _ _ (held books fits cs).reached
