-- A sequence of calls reaches a board by what it accepted.
use Rattle.std.specs.Prelude.{◌≡◌, refl, List, [], ◌∷◌, ◌++◌, ℕ}
use Rattle.std.proofs.Common.{subst, append_assoc, append-nil}
use Rattle.std.proofs.Math.Option.{none}
use Rattle.paper_board.specs.declared.Board.{Board}
use Rattle.paper_rules.specs.Paper.Entries.{Admissible}
use Rattle.paper_entries.specs.declared.Entered.{Entered}
use Rattle.paper_entries.specs.Paper.Entry.{Entry, addition, other, entries, with_entry}
use Rattle.paper_entries.specs.Paper.Checks.{checks, first_refusal}
use Rattle.paper_entries.proofs.EntriesAgree.{agree_snoc, agree_sym}
use Rattle.paper_entries.proofs.Allowed.{Allowed, checks_allow}
use Rattle.paper_entries.specs.Paper.Enter.{acceptance, enter}
use Rattle.paper_entries.proofs.Reached.{Reached, admissible_with, admissible_agree, reached_agree, reached_counted}
use Rattle.paper_entries.proofs.EnterOutcome.{Step, step}
use Rattle.paper_entries.specs.Paper.Outcome.{by_table, impossible, accepted}
use Rattle.paper_entries.specs.Paper.Replies.{reply_of}
use Rattle.paper_entries.specs.Paper.Sequence.{Call, outcome, after, kept, Each}
use Rattle.paper_entries.specs.Paper.Sequence

-- the board was reached by entries that passed the checks
pub record Held (l : List Entry) (b : Board) : Type 0 where
  pub admissible : Admissible (entries l)
  pub reached : Reached (entries l) b

-- an accepted entry is kept
accepted_kept : (n : ℕ) (e : Entry) → kept (reply_of (acceptance n e)) e ≡ e ∷ []
accepted_kept n (addition l e d m) = refl
accepted_kept n (other s) = refl

module _ (l : List Entry) (b : Board) (h : Held l b) where
  -- an entry that passes the checks may follow the others
  pub admissible_snoc : (e : Entry) → first_refusal (checks b.jobs e) ≡ none → Admissible (entries (l ++ e ∷ []))
  admissible_snoc e g =
      admissible_agree (with_entry (entries l) e) (entries (l ++ e ∷ [])) (agree_sym _ _ (agree_snoc l e))
      (admissible_with (entries l) e h.admissible (subst (λ n. Allowed n e) h.reached.shows.count (checks_allow b.jobs e g)))

  one_more : (e : Entry) (x : Entered) → Step (entries l) b e x → Held (l ++ kept (reply_of x.answer) e) x.board
  one_more e _ (by_table r g) = rw append-nil h
  one_more e _ (impossible g i) =
      rw append-nil (record { admissible = h.admissible; reached = reached_counted (entries l) b h.reached })
  one_more e _ (accepted g c r t) =
      rw (accepted_kept b.jobs e)
      (record {
        admissible = admissible_snoc e g;
        reached = reached_agree _ _ c (agree_sym _ _ (agree_snoc l e)) r;
      })

  -- one call
  called : (e : Entry) → Held (l ++ kept (reply_of (enter b e).answer) e) (enter b e).board
  called e = one_more e (enter b e) (step (entries l) b e h.reached)

pub played : (l : List Entry) (b : Board) (cs : List Call) → Held l b → Held (l ++ Sequence.accepted b cs) (after b cs)
unfolding Sequence.accepted after
played l b [] h = rw append-nil h
played l b (c ∷ cs) h =
    let x = outcome b c in
    rw (← append_assoc l (kept (reply_of x.answer) c.entry) (Sequence.accepted x.board cs))
    (played (l ++ kept (reply_of x.answer) c.entry) x.board cs (called l b h c.entry))

-- what holds of each board that was so reached holds of each call of a sequence
pub each_held : (P : Board → List Entry → Call → Type 0) → ((b : Board) (l : List Entry) (c : Call) → Held l b → P b l c)
    → (b : Board) (l : List Entry) (cs : List Call) → Held l b → Each P b l cs
unfolding Each
each_held P claim b l [] h = tt
each_held P claim b l (c ∷ cs) h = (claim b l c h, each_held P claim (enter b c.entry).board _ cs (called l b h c.entry))
