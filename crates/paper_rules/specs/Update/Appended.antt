-- One more job: its row stored at the first place without one.
use Rattle.std.specs.Prelude.{refl, ◌≢◌, ℕ, suc, ◌<◌, ◌≤◌}
use Rattle.std.proofs.Common.{arith}
use Rattle.paper_board.specs.declared.Board.{Board}
use Rattle.paper_board.specs.Paper.View.{Row, Live, Arc, row_of, view}
use Rattle.paper_board.specs.Paper.Facts.{is_arc}
use Rattle.paper_board.specs.Paper.Limits.{job_limit, Fits, RowLimits, Within}
use Rattle.paper_rules.specs.Paper.Entries.{Shown, drawn}
use Rattle.paper_rules.specs.Order.OrderLaws.{shown_refl}
use Rattle.paper_rules.specs.Update.Updates.{append}
use Rattle.paper_rules.specs.Update.Extension.{Appended}
use Rattle.paper_rules.specs.Update.Stores.{stored_same, stored}
use Rattle.paper_rules.specs.Update.StoreWithin.{live_row, store_shape, live_stored}
use Rattle.paper_rules.specs.Update.StoreLeast.{by_arcs}

-- the place past the jobs is the only one that the count moves across
one_more : (n k : ℕ) (r : Row) → k ≢ n → RowLimits n k r → RowLimits (suc n) k r
one_more n k r ne h =
    record {
      mark = h.mark;
      live = λ l. h.live (omega arith);
      invalid = λ l. h.invalid (omega arith);
      blank = λ l. h.blank (omega arith);
    }

module _ (b : Board) (r : Row) (within : Within b) (free : b.jobs < job_limit) where
  append_within : Fits r → r.mark ≤ 1 → Within (append b r)
  append_within fits m =
      record {
        shape = store_shape b within.shape b.jobs r;
        limits = record { jobs = free; rows = rows; arcs = arcs };
        twice = within.twice;
      }
    where
      rows : (k : ℕ) → RowLimits (suc b.jobs) k (row_of (append b r) k)
      rows =
          stored b within.shape b.jobs r free (RowLimits (suc b.jobs))
          (live_row (suc b.jobs) b.jobs r (omega arith) m fits)
          λ k ne. one_more b.jobs k (row_of b k) ne (within.limits.rows k)

      live : (x : ℕ) → Live (view b) x → Live (view (append b r)) x
      live x l = (omega arith, (live_stored b within b.jobs r free x l (λ e. omega arith)).1)

      arcs : (x y : ℕ) → Arc (view b) x y → Live (view (append b r)) x × Live (view (append b r)) y × (x ≢ y)
      arcs x y a = let (lx, ly, ne) = within.limits.arcs x y a in (live x lx, live y ly, ne)

  pub appended : Fits r → r.mark ≤ 1 → Appended b r (append b r)
  appended fits m =
      record {
        more =
            record {
              within = append_within fits m;
              jobs = refl;
              books = refl;
              above = record {
                jobs = omega arith;
                rows = stored b within.shape b.jobs r free (λ k s. k < b.jobs → Shown (row_of b k) s)
                    (λ l. absurd (omega arith))
                    λ k _ _. shown_refl (row_of b k);
                facts = by_arcs (view b) (view (append b r)) λ x y a.
                    let (lx, ly, _) = within.limits.arcs x y a in
                    (omega arith, omega arith, λ _ _. a);
              };
            };
        meets = (omega arith, rw (stored_same b within.shape b.jobs r free) (shown_refl r));
        least = λ w up _ (more, new).
            record {
              jobs = more;
              rows = stored b within.shape b.jobs r free (λ k s. k < suc b.jobs → Shown s (w.row k))
                  (λ _. new)
                  λ k ne l. up.rows k (omega arith);
              facts = by_arcs (view (append b r)) w λ x y a. up.facts (is_arc x y) (drawn x y a);
            };
      }
