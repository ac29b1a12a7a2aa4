-- "Only an entry makes a job valid": the rules have valid jobs in their premises alone, so a board that keeps them still
-- does with one valid mark taken back, and the least closed board has no valid mark that no entry states.
use Rattle.std.specs.Prelude.{◌≡◌, refl, ◌≢◌, Bool, true, false, cond, ℕ, ◌<◌, eqb}
use Rattle.std.proofs.Common.{subst, arith, eqb-true}
use Rattle.std.proofs.lemmas.Bool.{eqb-false}
use Rattle.paper_board.specs.declared.Board.{Board}
use Rattle.paper_board.specs.Paper.View.{Row, View, Live, Valid, Side, early, late, bound, Beyond, view}
use Rattle.paper_board.specs.Paper.Facts.{Fact, is_arc, is_bound, is_valid, is_invalid, Holds}
use Rattle.paper_board.specs.Paper.Limits.{RowLimits, Limited}
use Rattle.paper_rules.specs.Inference.Infers.{Infers, r1, r2, r3, r45, r6, Obeys}
use Rattle.paper_rules.specs.Paper.Entries.{Entries, Shown, Shows, ◌⊑◌}
use Rattle.paper_rules.specs.Paper.Closed.{Closed, Least}
use Rattle.paper_rules.specs.Order.OrderLaws.{valid_up}
use Rattle.paper_rules.proofs.BoardOf.{closed_board, least_below}
use Rattle.paper_rules.specs.Update.Updates.{marked}
use Rattle.paper_rules.specs.Update.RaisedRows.{marked_fits}
use Rattle.paper_rules.specs.Update.StoreWithin.{live_row}
use Rattle.paper_rules.proofs.ObeysRules.{rules_obey}

-- v with the mark of job j taken back to undecided
abbrev undecided : View → ℕ → View
undecided v j =
    record { jobs = v.jobs; row = λ k. marked (cond (eqb j k) 0 (v.row k).mark) (v.row k); arc = v.arc }

-- no rule infers that a job is valid
never_valid : {v : View} {k : ℕ} → Infers v (is_valid k) → ⊥
never_valid = elim [ ]

module _ (v : View) (j : ℕ) (valid : Valid v j) where
  abbrev w : View
  w = undecided v j

  -- what holds of the undecided row at j, and of the old row elsewhere, holds of the new row
  row_cases : (P : Row → Type 0) (k : ℕ) → (j ≡ k → P (marked 0 (v.row k))) → (j ≢ k → P (v.row k)) → P (w.row k)
  row_cases P k p q = go (eqb j k) refl
    where
      go : (t : Bool) → eqb j k ≡ t → P (marked (cond t 0 (v.row k).mark) (v.row k))
      go true e = p (eqb-true j k e)
      go false e = q (eqb-false j k e)

  mark_cases : (P : ℕ → Type 0) (k : ℕ) → (j ≡ k → P 0) → (j ≢ k → P (v.row k).mark) → P (w.row k).mark
  mark_cases P = row_cases (λ r. P r.mark)

  invalid_kept : (k : ℕ) → (v.row k).mark ≡ 2 → (w.row k).mark ≡ 2
  invalid_kept k h = mark_cases (λ m. m ≡ 2) k (λ e. absurd (omega (arith, rw e at valid.1))) (λ n. h)

  live_kept : (k : ℕ) → Live v k → Live w k
  live_kept k (l, h) = (l, mark_cases (λ m. m ≢ 2) k (λ e z. omega arith) (λ n. h))

  live_back : (k : ℕ) → Live w k → Live v k
  live_back k (l, h) = (l, λ e. h (invalid_kept k e))

  valid_back : (k : ℕ) → Valid w k → Valid v k
  valid_back k (l, h) = (l, mark_cases (λ m. m ≡ 1 → (v.row k).mark ≡ 1) k (λ e z. absurd (omega arith)) (λ n z. z) h)

  beyond_back : (s : Side) (k i : ℕ) → Beyond w s k i → Beyond v s k i
  beyond_back early k i a = a
  beyond_back late k i a = a

  same_bound : (s : Side) (k : ℕ) → bound s (w.row k) ≡ bound s (v.row k)
  same_bound early k = refl
  same_bound late k = refl

  infers_back : (f : Fact) → Infers w f → Infers v f
  infers_back _ (r1 a b c la vb lc ne ab bc) = r1 a b c (live_back a la) (valid_back b vb) (live_back c lc) ne ab bc
  infers_back _ (r2 a b va lb ab ba) = r2 a b (valid_back a va) (live_back b lb) ab ba
  infers_back _ (r3 a b la lb ne h) = r3 a b (live_back a la) (live_back b lb) ne h
  infers_back _ (r45 s k S m lk p) =
      r45 s k S m (live_back k lk)
      (record {
        member = p.member;
        inside = p.inside;
        valid = λ i e. valid_back i (p.valid i e);
        beyond = λ i e. beyond_back s i k (p.beyond i e);
        low = λ i e. rw same_bound at (p.low i e);
      })
  infers_back _ (r6 k lk h) = r6 k (live_back k lk) h

  holds_kept : (f : Fact) → (f ≢ is_valid j) → Holds v f → Holds w f
  holds_kept (is_arc i k) ne (li, lk, h) = (li, lk, λ a b. h (live_back i a) (live_back k b))
  holds_kept (is_bound s k z) ne (l, h) = (l, λ a. rw same_bound (h (live_back k a)))
  holds_kept (is_valid k) ne (l, h) = (l, mark_cases (λ m. m ≡ 1) k (λ e. absurd (ne (cc))) (λ n. h))
  holds_kept (is_invalid k) ne (l, h) = (l, invalid_kept k h)

  obeys_kept : Obeys v → Obeys w
  obeys_kept obeys f i =
      let inferred = infers_back f i in
      holds_kept f (λ e. never_valid (rw e at inferred)) (obeys f inferred)

  shown_kept : (r : Row) (k : ℕ) → (j ≡ k → r.mark ≢ 1) → Shown r (v.row k) → Shown r (w.row k)
  shown_kept r k ne h =
      let live : (w.row k).mark ≢ 2 → (v.row k).mark ≢ 2 = λ l e. l (invalid_kept k e) in
      record {
        valid = λ e. mark_cases (λ m. m ≡ 1) k (λ q. absurd (ne q e)) (λ n. h.valid e);
        invalid = λ e. invalid_kept k (h.invalid e);
        length = λ l. h.length (live l);
        earliest = λ l. h.earliest (live l);
        latest = λ l. h.latest (live l);
      }

  not_valid : Valid w j → ⊥
  not_valid (l, h) = mark_cases (λ m. m ≡ 1 → ⊥) j (λ e z. omega arith) (λ n z. n refl) h

  limited_kept : Limited v → Limited w
  limited_kept limits =
      record {
        jobs = limits.jobs;
        rows = λ k. row_cases (RowLimits v.jobs k) k (taken_back k) (λ n. limits.rows k);
        arcs = λ i k a. let (li, lk, ne) = limits.arcs i k a in (live_kept i li, live_kept k lk, ne);
      }
    where
      taken_back : (k : ℕ) → j ≡ k → RowLimits v.jobs k (marked 0 (v.row k))
      taken_back k e =
          let fits = (limits.rows k).live (omega arith) λ m. omega (arith, rw e at valid.1) in
          live_row v.jobs k (marked 0 (v.row k)) (omega arith) (omega arith)
          (marked_fits 0 (v.row k) fits)

-- a job that no entry states valid is not valid on the least closed board
pub least_entered : (es : Entries) (b : Board) → Least es b
    → (j : ℕ) → (j < es.jobs → (es.row j).mark ≢ 1) → (es.facts (is_valid j) → ⊥) → Valid (view b) j → ⊥
least_entered es b least j unmarked unstated valid = not_valid v j valid (valid_up v w up j valid)
  where
    v : View
    v = view b

    w : View
    w = undecided v j

    closed : Closed es b
    closed = least.closed

    limits : Limited w
    limits = limited_kept v j valid closed.within.limits

    shows : Shows es w
    shows =
        let old = closed.shows.at_least in
        record {
          count = closed.shows.count;
          at_least =
              record {
                jobs = old.jobs;
                rows = λ k l.
                    shown_kept v j valid (es.row k) k (λ e. subst (λ i. i < es.jobs → (es.row i).mark ≢ 1) e unmarked l)
                    (old.rows k l);
                facts = λ f e. holds_kept v j valid f (λ q. unstated (rw q at e)) (old.facts f e);
              };
        }

    up : v ⊑ w
    up =
        least_below es b least w limits
        (closed_board es w limits shows (obeys_kept v j valid (rules_obey v closed.rules)))
