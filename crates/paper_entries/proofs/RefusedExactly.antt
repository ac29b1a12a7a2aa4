-- "refused as impossible exactly when that closure is a contradiction"; and the board after a refusal.
use Rattle.std.specs.Prelude.{◌≡◌, refl, ◌↔◌, ◌≢◌, Bool, true, false, cond, eqb, Err}
use Rattle.std.proofs.Common.{ap, subst, arith, ne_eqb}
use Rattle.std.proofs.Math.Option.{none}
use Rattle.ground_arithmetic.specs.Bools.{clash}
use Rattle.paper_board.specs.declared.Board.{Board}
use Rattle.paper_board.specs.declared.Refusal.{Refusal}
use Rattle.paper_board.specs.declared.Refusal.TheVariants as Refused
use Rattle.paper_board.specs.Paper.View.{view}
use Rattle.paper_board.specs.Paper.Refusals.{number_of}
use Rattle.paper_rules.specs.Paper.Entries.{Entries, shown}
use Rattle.paper_rules.specs.Paper.Closed.{Contradiction}
use Rattle.paper_closure.specs.Passes.{passes}
use Rattle.paper_entries.specs.declared.Entered.{Entered}
use Rattle.paper_entries.specs.Paper.Entry.{Entry, with_entry}
use Rattle.paper_entries.specs.Paper.Checks.{checks, first_refusal}
use Rattle.paper_entries.specs.Paper.Enter.{counted, enter, refused}
use Rattle.paper_entries.specs.Paper.Replies.{no_number, reply_of}
use Rattle.paper_entries.specs.Paper.Outcome.{Outcome, by_table, impossible, accepted}
use Rattle.paper_entries.specs.AnsweredImpossible.{by_table_middle, not_refused}
use Rattle.paper_entries.proofs.EnterOutcome.{enter_checked, enter_refused}

-- whatever the entries are that the board shows
pub outcome_exactly : (es : Entries) (b : Board) (e : Entry) (x : Entered) → Outcome es b e x → first_refusal (checks b.jobs e) ≡ none
    → (reply_of x.answer ≡ no_number 8) ↔ Contradiction (with_entry es e)
outcome_exactly es b e _ (by_table r h) g = clash (cc)
outcome_exactly es b e _ (impossible h k) g = (λ q. k, λ k'. refl)
outcome_exactly es b e _ (accepted h c l t) g =
    (λ q. absurd (not_refused b.jobs e 8 q), λ k. absurd (k c l.closed))

pub refused_exactly : (b : Board) (e : Entry) → passes b ≡ true → first_refusal (checks b.jobs e) ≡ none
    → (reply_of (enter b e).answer ≡ no_number 8) ↔ Contradiction (with_entry (shown (view b)) e)
refused_exactly b e p g = outcome_exactly (shown (view b)) b e (enter b e) (enter_checked b e p) g

-- "A refusal carries its number only and alters nothing; number 8 adds one to the tally."
abbrev pub after_refusal : Refusal → Board → Board
after_refusal r b = cond (eqb (number_of r) 8) (counted b) b

-- of every board, also of one that check 0 refuses
pub refused_board : (b : Board) (e : Entry) (r : Refusal) → (enter b e).answer ≡ Err r → (enter b e).board ≡ after_refusal r b
refused_board b e r q = go (passes b) refl
  where
    other : (s : Refusal) → number_of s ≢ 8 → (refused s b).answer ≡ (refused r b).answer → b ≡ after_refusal r b
    other s n a = let is : s ≡ r = cc in subst (λ x. b ≡ after_refusal x b) is (rw (ne_eqb (number_of s) 8 n))

    ends : (x : Entered) → Outcome (shown (view b)) b e x → x.answer ≡ Err r → x.board ≡ after_refusal r b
    ends _ (by_table s g) a = other s (omega (arith, by_table_middle b.jobs e s g)) a
    ends _ (impossible g k) a = let is : Refused.Impossible ≡ r = cc in subst (λ x. counted b ≡ after_refusal x b) is refl
    ends _ (accepted g c l t) a = absurd (not_refused b.jobs e (number_of r) (ap reply_of a))

    go : (t : Bool) → passes b ≡ t → (enter b e).board ≡ after_refusal r b
    go true p = ends (enter b e) (enter_checked b e p) q
    go false p = rw (enter_refused b e p) (other Refused.Board (omega arith) (cc (enter_refused b e p)))
