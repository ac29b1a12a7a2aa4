-- Where each store stands in the order of boards: above the board that it changes, and below every view that shows the
-- board and what was stored.
use Rattle.std.specs.Prelude.{◌≡◌, refl, ◌≢◌, ℕ, ◌<◌}
use Rattle.std.proofs.Common.{sym, subst, arith}
use Rattle.paper_board.specs.declared.Board.{Board}
use Rattle.paper_board.specs.Paper.View.{Row, View, Live, Invalid, Arc, row_of, view}
use Rattle.paper_board.specs.Paper.Facts.{Fact, is_arc, Holds}
use Rattle.paper_board.specs.Paper.Limits.{zero_row, Within}
use Rattle.paper_rules.specs.Paper.Entries.{Shown, Drawn, drawn, ◌⊑◌}
use Rattle.paper_rules.specs.Order.OrderLaws.{shown_refl, shown_invalid}
use Rattle.paper_rules.specs.Update.Updates.{store, link, invalidate}
use Rattle.paper_rules.specs.Update.Stores.{place, stored_same, stored, linked_old, linked_arcs, unlinked_old, unlinked_kept}

-- the facts that a view counts as entries are its arcs
pub by_arcs : (v w : View) → ((i k : ℕ) → Arc v i k → Holds w (is_arc i k)) → (f : Fact) → Drawn v f → Holds w f
by_arcs v w h _ (drawn i k a) = h i k a

module _ (b : Board) (within : Within b) where
  module _ (j : ℕ) (job : j < b.jobs) where
    pub store_shows : (r : Row) (P : Row → Type 0) → P r → P (row_of (store b j r) j)
    store_shows r P h = subst P (sym (stored_same b within.shape j r (place b within j job))) h

    pub store_above : (r : Row) → Shown (row_of b j) r → view b ⊑ view (store b j r)
    store_above r new =
        record {
          jobs = omega arith;
          rows = stored b within.shape j r (place b within j job) (λ k s. k < b.jobs → Shown (row_of b k) s)
              (λ _. new)
              λ k _ _. shown_refl (row_of b k);
          facts = by_arcs (view b) (view (store b j r)) λ x y a. let (lx, ly, _) = within.limits.arcs x y a in (lx.0, ly.0, λ _ _. a);
        }

    pub store_least : (r : Row) (w : View) → view b ⊑ w → Shown r (w.row j) → view (store b j r) ⊑ w
    store_least r w up new =
        record {
          jobs = up.jobs;
          rows = stored b within.shape j r (place b within j job) (λ k s. k < b.jobs → Shown s (w.row k))
              (λ _. new)
              λ k _. up.rows k;
          facts = by_arcs (view (store b j r)) w λ x y a. up.facts (is_arc x y) (drawn x y a);
        }

    pub invalidate_shows : Invalid (view (invalidate b j)) j
    invalidate_shows = (job, store_shows (zero_row 2) (λ s. s.mark ≡ 2) refl)

    pub invalidate_above : (row_of b j).mark ≢ 1 → view b ⊑ view (invalidate b j)
    invalidate_above m =
        record {
          jobs = omega arith;
          rows = (store_above (zero_row 2) (shown_invalid (row_of b j) (zero_row 2) m refl)).rows;
          facts = by_arcs (view b) (view (invalidate b j)) λ x y a.
              let (lx, ly, _) = within.limits.arcs x y a in
              (lx.0, ly.0, λ lx ly. unlinked_kept b within j job x y a (apart x lx) (apart y ly));
        }
      where
        apart : (x : ℕ) → Live (view (invalidate b j)) x → x ≢ j
        apart x h e = (subst (Live (view (invalidate b j))) e h).1 invalidate_shows.1

    pub invalidate_least : (w : View) → view b ⊑ w → Invalid w j → view (invalidate b j) ⊑ w
    invalidate_least w up h =
        record {
          jobs = up.jobs;
          rows = (store_least (zero_row 2) w up (shown_invalid (zero_row 2) (w.row j) (λ e. omega arith) h.1)).rows;
          facts = by_arcs (view (invalidate b j)) w λ x y a. up.facts (is_arc x y) (drawn x y (unlinked_old b within j job x y a).0);
        }

  module _ (i k : ℕ) (job-i : i < b.jobs) (job-k : k < b.jobs) where
    pub link_above : view b ⊑ view (link b i k)
    link_above =
        record {
          jobs = omega arith;
          rows = λ k _. shown_refl (row_of b k);
          facts = by_arcs (view b) (view (link b i k)) λ x y a.
              let (lx, ly, _) = within.limits.arcs x y a in
              (lx.0, ly.0, λ _ _. linked_old b within i k job-i job-k x y a);
        }

    pub link_least : (w : View) → view b ⊑ w → Holds w (is_arc i k) → view (link b i k) ⊑ w
    link_least w up new =
        record {
          jobs = up.jobs;
          rows = up.rows;
          facts = by_arcs (view (link b i k)) w
              (linked_arcs b within i k job-i job-k (λ x y. Holds w (is_arc x y)) new λ x y a. up.facts (is_arc x y) (drawn x y a));
        }
