-- "Repeating an accepted arc, mark or cut is accepted"; an invalid job's "further arcs and cuts are accepted without effect".
use Rattle.std.specs.Prelude.{◌≡◌, refl, Bool, true, false, List, ℤ, None, Ok}
use Rattle.std.proofs.Math.Path.{subst⁻¹}
use Rattle.std.proofs.Common.{⊎_elim, arith}
use mathlib.Core.List.Memᴰ
use Rattle.std.proofs.Math.Option.{none}
use Rattle.ground_arithmetic.specs.Bools.{clash}
use Rattle.paper_board.specs.declared.Board.{Board}
use Rattle.paper_board.specs.Paper.View.{View, Invalid, Side, view}
use Rattle.paper_board.specs.Paper.Facts.{is_arc, is_bound, Holds}
use Rattle.paper_rules.specs.Paper.Entries.{Entries, shown}
use Rattle.paper_rules.specs.Paper.Closed.{Least}
use Rattle.paper_rules.proofs.LeastClosed.{closed_least}
use Rattle.paper_rules.specs.Order.OrderLaws.{holds_up}
use Rattle.paper_rules.specs.Order.LeastUnique.{least_unique, equal_boards}
use Rattle.paper_closure.specs.Passes.{passes}
use Rattle.paper_closure.proofs.PassesClosed.{passes_within, passes_least}
use Rattle.paper_entries.specs.declared.Entered.{Entered}
use Rattle.paper_entries.specs.Paper.Entry.{Statement, arc, cut, Entry, other, number, stated, with_entry}
use Rattle.paper_entries.specs.Paper.Checks.{statement_checks, first_refusal}
use Rattle.paper_entries.specs.Paper.Enter.{enter}
use Rattle.paper_entries.specs.Paper.Outcome.{Outcome, by_table, impossible, accepted}
use Rattle.paper_entries.specs.Paper.Sequence.{Call, after}
use Rattle.paper_entries.specs.ShowsEntry.{HoldAll, with_split, with_join}
use Rattle.paper_entries.proofs.Allowed.{AllAboutJobs, checks_allow, checks_more}
use Rattle.paper_entries.proofs.Later.{call_later, calls_later}
use Rattle.paper_entries.proofs.EnterOutcome.{Step, step, reached_shown, enter_checked, enter_refused}

-- accepted without effect
abbrev pub without_effect : Board → Entered
without_effect b = record { answer = Ok None; board = b }

-- a statement is accepted without effect where the board shows already what it states
pub unaltered : (b : Board) (s : Statement) → passes b ≡ true → first_refusal (statement_checks b.jobs s) ≡ none
    → HoldAll (stated s) (view b) → enter b (other s) ≡ without_effect b
unaltered b s p g holds = ends (enter b (other s)) (enter_checked b (other s) p)
  where
    es : Entries
    es = with_entry (shown (view b)) (other s)

    -- b itself is the least closed board over what it shows and the statement
    least : Least es b
    least =
        let old = (passes_least b p).closed in
        record {
          closed =
              record {
                within = old.within;
                books = old.books;
                shows = record { count = refl; at_least = with_join (shown (view b)) (view b) (other s) old.shows.at_least holds };
                rules = old.rules;
              };
          least = λ c k. (with_split (shown (view b)) (view c) (other s) k.shows.at_least).0;
        }

    ends : (x : Entered) → Outcome (shown (view b)) b (other s) x → x ≡ without_effect b
    ends _ (by_table r h) = clash (cc)
    ends _ (impossible h k) = absurd (k b least.closed)
    ends _ (accepted h c l t) =
        let same = equal_boards c b l.closed.within (passes_within b p) (record { alike = (least_unique es c b (closed_least es c l) least).alike; books = t }) in
        λ i. record { answer = Ok None; board = same i }

-- ---- repeated entries

-- an accepted statement met no refusal, and its board shows it
shown_after : (b : Board) (s : Statement) (x : Entered) → Step (shown (view b)) b (other s) x → x.answer ≡ Ok None
    → (first_refusal (statement_checks b.jobs s) ≡ none) × HoldAll (stated s) (view x.board)
shown_after b s _ (by_table r g) q = clash (cc)
shown_after b s _ (impossible g i) q = clash (cc)
shown_after b s _ (accepted g c r t) q = (g, (with_split (shown (view b)) (view c) (other s) r.shows.at_least).1)

accepted_passes : (b : Board) (e : Entry) → (enter b e).answer ≡ Ok None → passes b ≡ true
accepted_passes b e q = go (passes b) refl
  where
    go : (t : Bool) → passes b ≡ t → passes b ≡ true
    go true p = p
    go false p = clash (cc (enter_refused b e p))

-- "Repeating an accepted arc, mark or cut is accepted", at once or after any other calls, and has no effect
pub repeated : (b : Board) (s : Statement) (cs : List Call) → (enter b (other s)).answer ≡ Ok None
    → enter (after (enter b (other s)).board cs) (other s) ≡ without_effect (after (enter b (other s)).board cs)
repeated b s cs q =
    let p = accepted_passes b (other s) q in
    let c = (enter b (other s)).board in
    let one = call_later b (other s) p in
    let rest = calls_later c cs one.passes in
    let (g, holds) = shown_after b s (enter b (other s)) (step (shown (view b)) b (other s) (reached_shown b p)) q in
    unaltered (after c cs) s rest.passes
    (checks_more b.jobs _ (omega (arith, one.above.jobs, rest.above.jobs)) s g)
    (λ f m. holds_up (view c) _ rest.above f (holds f m))

-- ---- invalid jobs

-- an arc or cut that names an invalid job
pub data NamesInvalid (v : View) : Statement → Type 0 where
  arc_from : (a b : ℤ) → Invalid v (number a) → NamesInvalid v (arc a b)
  arc_to : (a b : ℤ) → Invalid v (number b) → NamesInvalid v (arc a b)
  cut_of : (j e d : ℤ) → Invalid v (number j) → NamesInvalid v (cut j e d)

-- what is stated of an invalid job counts as shown
counts : (v : View) (s : Statement) → NamesInvalid v s → AllAboutJobs v.jobs (stated s) → HoldAll (stated s) v
counts v _ (arc_from a b h) known f i =
    let (la, lb, _) = known (is_arc (number a) (number b)) (Memᴰ.head refl) in
    subst⁻¹ (Holds v) (Memᴰ.eq_of_singleton i) (la, lb, λ x y. absurd (x.1 h.1))
counts v _ (arc_to a b h) known f i =
    let (la, lb, _) = known (is_arc (number a) (number b)) (Memᴰ.head refl) in
    subst⁻¹ (Holds v) (Memᴰ.eq_of_singleton i) (la, lb, λ x y. absurd (y.1 h.1))
counts v _ (cut_of j e d h) known f i = ⊎_elim bound (λ i'. bound (Memᴰ.eq_of_singleton i')) (Memᴰ.cases_cons i)
  where
    bound : {s : Side} {z : ℤ} → f ≡ is_bound s (number j) z → Holds v f
    bound q = subst⁻¹ (Holds v) q (h.0, λ live. absurd (live.1 h.1))

-- "its further arcs and cuts are accepted without effect", unless one of the checks 1 to 7 refuses them
pub invalid_unaltered : (b : Board) (s : Statement) → passes b ≡ true → first_refusal (statement_checks b.jobs s) ≡ none
    → NamesInvalid (view b) s → enter b (other s) ≡ without_effect b
invalid_unaltered b s p g h = unaltered b s p g (counts (view b) s h (checks_allow b.jobs (other s) g))
