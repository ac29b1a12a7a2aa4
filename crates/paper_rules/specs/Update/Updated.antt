-- Each update gives the least board above b, within the limits, where the fact holds; or none, and no view above b that
-- obeys the rules shows the fact.
use Rattle.std.specs.Prelude.{◌≡◌, refl, ◌≢◌, false, cond, ◌&&◌, eqb, ℤ, ◌≤ℤ◌}
use Rattle.std.proofs.Math.Bool.{true}
use Rattle.std.proofs.Math.Option.{none, some}
use Prim.Native.Nat.{ℕ, ◌<◌, ◌≤◌}
use Rattle.std.proofs.Common.{arith, eqb-true}
use Rattle.std.specs.Int.Signed.{lt_z}
use Rattle.std.proofs.lemmas.Bool.{eqb-false}
use Rattle.ground_arithmetic.specs.Bools.{by_test, refuted, and_parts, and_both}
use Rattle.ground_arithmetic.specs.Linear.{whole}
use Rattle.paper_board.specs.declared.Board.{Board}
use Rattle.paper_board.specs.Paper.View.{Row, View, Live, Invalid, Side, bound, row_of, view}
use Rattle.paper_board.specs.Paper.Facts.{Fact, is_arc, is_bound, is_valid, is_invalid, Holds, AboutJobs}
use Rattle.paper_rules.specs.Inference.Infers.{Obeys, r6}
use Rattle.paper_board.specs.Paper.Limits.{Fits, Within}
use Rattle.paper_rules.specs.Paper.Entries.{Shown, ◌⊑◌}
use Rattle.paper_rules.specs.Inference.Forced.{invalid_unless}
use Rattle.paper_board.specs.Paper.Tests.{live}
use Rattle.paper_board.specs.BoardTests.Live.{live_yes, live_show, roomy}
use Rattle.paper_rules.specs.Update.Updates.{store, link, invalidate, raised, marked, exclude, tighten, update}
use Rattle.paper_rules.specs.Update.Extension.{above_self, Extended, Updated}
use Rattle.paper_rules.specs.Update.ExtendsThen.{extends_same}
use Rattle.paper_rules.specs.Update.Stores.{linked_new}
use Rattle.paper_rules.specs.Update.StoreWithin.{store_within, invalidate_within, link_within}
use Rattle.paper_rules.specs.Update.RaisedRows.{raised_mark, raised_bound, raised_above, raised_least, raised_fits, raised_short, valid_above, valid_least, marked_fits}
use Rattle.paper_rules.specs.Update.StoreLeast.{store_shows, store_above, store_least, invalidate_shows, invalidate_above, invalidate_least, link_above, link_least}

module _ (b : Board) (within : Within b) where
  -- where the fact holds already, b is the least
  unchanged : (f : Fact) → Holds (view b) f → Extended b f b
  unchanged f h =
      record {
        more = above_self b within;
        meets = h;
        least = λ w up _ _. up;
      }

  -- row r stored over that of job j, where every view above b that shows the fact shows r
  rewritten : (f : Fact) (j : ℕ) (r : Row) → j < b.jobs → r.mark ≤ 1 → Fits r → Shown (row_of b j) r
      → Holds (view (store b j r)) f
      → ((w : View) → view b ⊑ w → Holds w f → Shown r (w.row j))
      → Extended b f (store b j r)
  rewritten f j r job m fits above holds least =
      record {
        more = record { within = store_within b within j job r m fits; jobs = refl; books = refl; above = store_above b within j job r above };
        meets = holds;
        least = λ w up _ h. store_least b within j job r w up (least w up h);
      }

  linked : (i k : ℕ) → Live (view b) i → Live (view b) k → i ≢ k → Extended b (is_arc i k) (link b i k)
  linked i k li lk ne =
      record {
        more = record { within = link_within b within i k li lk ne; jobs = refl; books = refl; above = link_above b within i k li.0 lk.0 };
        meets = (li.0, lk.0, λ _ _. linked_new b within i k li.0 lk.0);
        least = λ w up _. link_least b within i k li.0 lk.0 w up;
      }

  invalidated : (j : ℕ) → j < b.jobs → (row_of b j).mark ≢ 1 → Extended b (is_invalid j) (invalidate b j)
  invalidated j job m =
      record {
        more = record { within = invalidate_within b within j job; jobs = refl; books = refl; above = invalidate_above b within j job m };
        meets = invalidate_shows b within j job;
        least = λ w up _. invalidate_least b within j job w up;
      }

  -- a mark of 1 or 2 never changes, so a valid job admits no view where it is invalid
  excluded : (j : ℕ) → j < b.jobs → Updated b (is_invalid j) (exclude b j)
  unfolding exclude
  excluded j job =
      by_test (Updated b (is_invalid j)) (eqb m 1) none (some (cond (eqb m 2) b (invalidate b j))) was_valid λ e.
      by_test (Extended b (is_invalid j)) (eqb m 2) b (invalidate b j) was_invalid λ _. invalidated j job (eqb-false m 1 e)
    where
      m : ℕ
      m = (row_of b j).mark

      was_valid : eqb m 1 ≡ true → Updated b (is_invalid j) none
      was_valid e w up _ h = omega (arith, (up.rows j job).valid (eqb-true m 1 e), h.1)

      was_invalid : eqb m 2 ≡ true → Extended b (is_invalid j) b
      was_invalid e = unchanged (is_invalid j) (job, eqb-true m 2 e)

  -- a bound that is higher than the old one
  raise : (s : Side) (j : ℕ) (z : ℤ) → Live (view b) j → bound s (row_of b j) ≤ℤ z
      → Updated b (is_bound s j z) (tighten b j (raised s z (row_of b j)))
  unfolding tighten
  raise s j z lj h = by_test (Updated b (is_bound s j z)) (roomy r) (some (store b j r)) (exclude b j) fitting cramped
    where
      r : Row
      r = raised s z (row_of b j)

      fitting : roomy r ≡ true → Extended b (is_bound s j z) (store b j r)
      fitting room =
          rewritten (is_bound s j z) j r lj.0 (omega (arith, raised_mark s z (row_of b j), (within.limits.rows j).mark))
          (raised_fits s z (row_of b j) ((within.limits.rows j).live lj.0 lj.1) h room)
          (raised_above s z (row_of b j) h)
          (lj.0, λ _. store_shows b within j lj.0 r (λ t. z ≤ℤ bound s t) (raised_bound s z (row_of b j)))
          λ w up k. raised_least s z (row_of b j) (w.row j) (up.rows j lj.0) λ l. k.1 (k.0, l)

      -- R6 makes the job invalid in every view that shows the bound
      forced : roomy r ≡ false → (w : View) → view b ⊑ w → Obeys w → Holds w (is_bound s j z) → Invalid w j
      forced e w up obeys (job, k) =
          invalid_unless w j job λ l.
          obeys (is_invalid j) (r6 j l (raised_short s z (row_of b j) (w.row j) e (up.rows j lj.0) l.1 (k l)))

      cramped : roomy r ≡ false → Updated b (is_bound s j z) (exclude b j)
      cramped e =
          extends_same b.jobs (λ w. Holds w (is_invalid j)) (λ w. Holds w (is_bound s j z)) b
          (λ v k. (k.0, λ l. absurd (l.1 k.1)))
          (forced e)
          (exclude b j) (excluded j lj.0)

  pub updated : (f : Fact) → AboutJobs b.jobs f → Updated b f (update b f)
  unfolding update
  updated (is_arc i k) (job-i, job-k, ne) =
      by_test (Extended b (is_arc i k)) (live (view b) i && live (view b) k) (link b i k) b both one
    where
      both : (live (view b) i && live (view b) k) ≡ true → Extended b (is_arc i k) (link b i k)
      both e =
          let (li, lk) = and_parts (live (view b) i) (live (view b) k) e in
          linked i k (live_yes (view b) i li) (live_yes (view b) k lk) ne

      one : (live (view b) i && live (view b) k) ≡ false → Extended b (is_arc i k) b
      one e =
          unchanged (is_arc i k) (
            job-i,
            job-k,
            λ li lk.
                absurd (refuted e (and_both (live (view b) i) (live (view b) k) (live_show (view b) i li) (live_show (view b) k lk))),
          )
  updated (is_bound s j z) job =
      by_test (Updated b (is_bound s j z)) (live (view b) j && lt_z old z) (tighten b j (raised s z (row_of b j))) (some b) higher known
    where
      old : ℤ
      old = bound s (row_of b j)

      higher : (live (view b) j && lt_z old z) ≡ true → Updated b (is_bound s j z) (tighten b j (raised s z (row_of b j)))
      higher e =
          let (l, h) = and_parts (live (view b) j) (lt_z old z) e in
          raise s j z (live_yes (view b) j l) (omega whole)

      shows : (live (view b) j && lt_z old z) ≡ false → Live (view b) j → z ≤ℤ old
      shows e l = let h : lt_z old z ≡ false = rw (live_show (view b) j l) at e in omega whole

      known : (live (view b) j && lt_z old z) ≡ false → Extended b (is_bound s j z) b
      known e = unchanged (is_bound s j z) (job, shows e)
  updated (is_valid j) job =
      by_test (Updated b (is_valid j)) (eqb r.mark 2) none (some (store b j (marked 1 r))) was_invalid was_live
    where
      r : Row
      r = row_of b j

      was_invalid : eqb r.mark 2 ≡ true → Updated b (is_valid j) none
      was_invalid e w up _ h = omega (arith, (up.rows j job).invalid (eqb-true r.mark 2 e), h.1)

      was_live : eqb r.mark 2 ≡ false → Extended b (is_valid j) (store b j (marked 1 r))
      was_live e =
          let m : r.mark ≢ 2 = eqb-false r.mark 2 e in
          rewritten (is_valid j) j (marked 1 r) job (omega arith)
          (marked_fits 1 r ((within.limits.rows j).live job m))
          (valid_above r m)
          (job, store_shows b within j job (marked 1 r) (λ t. t.mark ≡ 1) refl)
          λ w up h. valid_least r (w.row j) (up.rows j job) h.1
  updated (is_invalid j) job = excluded j job
