-- What any call is refused with: 0 on a board that fails check 0; otherwise by the first check that refuses it, and where none does, 8 or
-- nothing.
use Rattle.std.specs.Prelude.{◌≡◌, ◌⊎◌, true, false, ◌&&◌, ℕ, leb}
use Rattle.std.proofs.Math.Path.{refl, ap}
use Rattle.std.proofs.Math.Logic.{inl, inr}
use Rattle.std.proofs.Math.Option.{none, some}
use Rattle.ground_arithmetic.specs.Bools.{clash, by_test}
use Rattle.paper_board.specs.declared.Board.{Board}
use Rattle.paper_board.specs.declared.Refusal.{Refusal}
use Rattle.paper_rules.specs.Paper.Entries.{shown}
use Rattle.paper_board.specs.Paper.Refusals.{number_of}
use Rattle.paper_board.specs.Paper.Tests.{live}
use Rattle.paper_board.specs.Paper.View.{View, view}
use Rattle.paper_closure.specs.Passes.{passes}
use Rattle.paper_entries.specs.declared.Entered.{Entered}
use Rattle.paper_entries.specs.Paper.Replies.{Reply, ok_number, ok, no_number, reply_of, pair_reply_of}
use Rattle.paper_entries.specs.Paper.Entry.{arc, mark, cut, Entry, addition, other, number}
use Rattle.paper_entries.specs.Paper.Enter.{enter}
use Rattle.paper_entries.specs.Paper.Outcome.{Outcome, by_table, impossible, accepted}
use Rattle.paper_entries.specs.Paper.Checks.{first_refusal}
use Rattle.paper_entries.specs.Paper.Looking
use Rattle.paper_entries.proofs.EnterOutcome.{enter_checked, enter_refused}
use Rattle.paper_plans.specs.Paper.PlanReply.{plan_reply_of}
use Rattle.paper_plans.specs.Paper.Lists.{among}
use Rattle.paper_plans.specs.Paper.Planner
use Rattle.paper_plans.specs.Paper.Tries
use Rattle.paper_requests.specs.Paper.Requests.{Request, entry, row, pair, plan, sort_of, refusals_of, checks_of, entry_refusal, pair_refusal, plan_refusal, refusal}

-- an entry's reply is refused with a number where it says so
pub refused_number : (r : Reply) (n : ℕ) → entry_refusal r ≡ some n → r ≡ no_number n
refused_number (ok_number k) n q = clash (cc)
refused_number ok n q = clash (cc)
refused_number (no_number m) n q = cc

module _ (b : Board) where
  pub refused_zero : (q : Request) → passes b ≡ false → refusal b q ≡ some 0
  unfolding Looking.row Looking.pair Planner.plan
  refused_zero (entry e) p = ap (λ x. entry_refusal (reply_of x.answer)) (enter_refused b e p)
  refused_zero (row j) p = rw (Looking.row, p)
  refused_zero (pair x y) p = rw (Looking.pair, p)
  refused_zero (plan z) p = rw (Planner.plan, p)

  pub refused_table : (q : Request) (r : Refusal) → passes b ≡ true → first_refusal (checks_of b.jobs q) ≡ some r
      → refusal b q ≡ some (number_of r)
  unfolding enter Looking.row Looking.pair Planner.plan
  refused_table (entry e) r p g = rw (enter, p, g)
  refused_table (row j) r p g = rw (Looking.row, p, g)
  refused_table (pair x y) r p g = rw (Looking.pair, p, g)
  refused_table (plan z) r p g = rw (Planner.plan, p, g)

  -- a result, or 8 where the call has it
  abbrev Result : Request → Type 0
  Result q = (refusal b q ≡ none) ⊎ ((refusal b q ≡ some 8) × (among (refusals_of (sort_of q)) 8 ≡ true))

  entries_have_8 : (e : Entry) → among (refusals_of (sort_of (entry e))) 8 ≡ true
  unfolding among
  entries_have_8 (addition l e d m) = refl
  entries_have_8 (other (arc x y)) = refl
  entries_have_8 (other (mark j m)) = refl
  entries_have_8 (other (cut j e d)) = refl

  entry_result : (e : Entry) (x : Entered) → Outcome (shown (view b)) b e x → first_refusal (checks_of b.jobs (entry e)) ≡ none
      → (entry_refusal (reply_of x.answer) ≡ none) ⊎ (entry_refusal (reply_of x.answer) ≡ some 8)
  entry_result e _ (by_table r h) g = clash (cc)
  entry_result e _ (impossible h k) g = inr refl
  entry_result (addition l d f m) _ (accepted h c s t) g = inl refl
  entry_result (other s) _ (accepted h c k t) g = inl refl

  plan_result : (v : View) (n : ℕ) (o : Tries.Ending) → plan_refusal (plan_reply_of (Planner.planned_within v n o)) ≡ none
  plan_result v n (Tries.found t ps) = by_test (λ x. plan_refusal (plan_reply_of x) ≡ none) (leb t n) _ _ (λ e. refl) (λ e. refl)
  plan_result v n (Tries.none t) = by_test (λ x. plan_refusal (plan_reply_of x) ≡ none) (leb t n) _ _ (λ e. refl) (λ e. refl)

  pub passed_result : (q : Request) → passes b ≡ true → first_refusal (checks_of b.jobs q) ≡ none → Result q
  unfolding Looking.row Looking.pair Planner.plan
  passed_result (entry e) p g = go (entry_result e (enter b e) (enter_checked b e p) g)
    where
      go : (refusal b (entry e) ≡ none) ⊎ (refusal b (entry e) ≡ some 8) → Result (entry e)
      go (inl n) = inl n
      go (inr i) = inr (i, entries_have_8 e)
  passed_result (row j) p g = inl (rw (Looking.row, p, g))
  passed_result (pair x y) p g =
      inl
      (rw (Looking.pair, p, g)
      (by_test (λ r. pair_refusal (pair_reply_of r) ≡ none) (live (view b) (number x) && live (view b) (number y)) _ _ (λ e. refl) (λ e. refl)))
  passed_result (plan z) p g = inl (rw (Planner.plan, p, g) (plan_result (view b) (number z) (Tries.tries (view b) (Planner.valid_jobs (view b)))))
