-- Each store keeps a board within its limits, and so do other books.
use Rattle.std.specs.Prelude.{◌≡◌, refl, ◌≢◌, ℕ, ◌<◌, ◌≤◌}
use Rattle.std.proofs.Common.{arith, length-set}
use Rattle.std.proofs.lemmas.List.{length-map}
use Rattle.paper_board.specs.declared.Board.{Board}
use Rattle.paper_board.specs.declared.Books.{Books}
use Rattle.paper_board.specs.Paper.Parts.{with_books, with_tally}
use Rattle.paper_board.specs.Paper.View.{Row, Live, Arc, row_of, view}
use Rattle.paper_board.specs.Paper.Limits.{job_limit, tally_limit, Fits, zero_row, RowLimits, Shape, Within, BooksWithin}
use Rattle.paper_rules.specs.Update.Updates.{store, link, invalidate}
use Rattle.paper_rules.specs.Update.Stores.{place, stored, linked_twice, linked_arcs, unlinked_twice, unlinked_old}

-- ---- rows within the limits: of a live job, of an invalid one, and of a place without a job

pub live_row : (n k : ℕ) (r : Row) → k < n → r.mark ≤ 1 → Fits r → RowLimits n k r
live_row n k r l m fits =
    record { mark = omega arith; live = λ _ _. fits; invalid = λ _ e. absurd (omega arith); blank = λ h. absurd (omega arith) }

pub invalid_row : (n k : ℕ) → k < n → RowLimits n k (zero_row 2)
invalid_row n k l =
    record { mark = omega arith; live = λ _ m. absurd (m refl); invalid = λ _ _. refl; blank = λ h. absurd (omega arith) }

pub blank_row : (n k : ℕ) → n ≤ k → RowLimits n k (zero_row 0)
blank_row n k l =
    record { mark = omega arith; live = λ h. absurd (omega arith); invalid = λ h. absurd (omega arith); blank = λ _. refl }

pub store_shape : (b : Board) → Shape b → (j : ℕ) (r : Row) → Shape (store b j r)
store_shape b shape j r =
    record {
      lengths = rw length-set shape.lengths;
      earliest = rw length-set shape.earliest;
      latest = rw length-set shape.latest;
      marks = rw length-set shape.marks;
      after = shape.after;
      before = shape.before;
    }

-- ---- the stores

module _ (b : Board) (within : Within b) where
  -- a job that was live is live after the store, unless its new row is that of an invalid job
  pub live_stored : (j : ℕ) (r : Row) → j < job_limit
      → (x : ℕ) → Live (view b) x → (x ≡ j → r.mark ≢ 2) → Live (view (store b j r)) x
  live_stored j r inside x (l, m) new = (l, marks x m new)
    where
      marks : (k : ℕ) → (row_of b k).mark ≢ 2 → (k ≡ j → r.mark ≢ 2) → (row_of (store b j r) k).mark ≢ 2
      marks =
          stored b within.shape j r inside (λ k s. (row_of b k).mark ≢ 2 → (k ≡ j → r.mark ≢ 2) → s.mark ≢ 2)
          (λ _ h. h refl)
          λ _ _ h _. h

  module _ (j : ℕ) (job : j < b.jobs) where
    pub store_within : (r : Row) → r.mark ≤ 1 → Fits r → Within (store b j r)
    store_within r m fits =
        record {
          shape = store_shape b within.shape j r;
          limits = record { jobs = within.limits.jobs; rows = rows; arcs = arcs };
          twice = within.twice;
        }
      where
        rows : (k : ℕ) → RowLimits b.jobs k (row_of (store b j r) k)
        rows =
            stored b within.shape j r (place b within j job) (RowLimits b.jobs)
            (live_row b.jobs j r job m fits)
            λ k _. within.limits.rows k

        live : (x : ℕ) → Live (view b) x → Live (view (store b j r)) x
        live x l = live_stored j r (place b within j job) x l (λ _ e. omega arith)

        arcs : (x y : ℕ) → Arc (view b) x y → Live (view (store b j r)) x × Live (view (store b j r)) y × (x ≢ y)
        arcs x y a = let (lx, ly, ne) = within.limits.arcs x y a in (live x lx, live y ly, ne)

    invalidate_shape : Shape (invalidate b j)
    invalidate_shape =
        let rows = store_shape b within.shape j (zero_row 2) in
        record {
          lengths = rows.lengths;
          earliest = rows.earliest;
          latest = rows.latest;
          marks = rows.marks;
          after = rw (length-set, length-map) within.shape.after;
          before = rw (length-set, length-map) within.shape.before;
        }

    pub invalidate_within : Within (invalidate b j)
    invalidate_within =
        record {
          shape = invalidate_shape;
          limits = record { jobs = within.limits.jobs; rows = rows; arcs = arcs };
          twice = unlinked_twice b within j job;
        }
      where
        rows : (k : ℕ) → RowLimits b.jobs k (row_of (invalidate b j) k)
        rows =
            stored b within.shape j (zero_row 2) (place b within j job) (RowLimits b.jobs)
            (invalid_row b.jobs j job)
            λ k _. within.limits.rows k

        live : (x : ℕ) → Live (view b) x → x ≢ j → Live (view (invalidate b j)) x
        live x l ne = live_stored j (zero_row 2) (place b within j job) x l (λ e. absurd (ne e))

        arcs : (x y : ℕ) → Arc (view (invalidate b j)) x y
            → Live (view (invalidate b j)) x × Live (view (invalidate b j)) y × (x ≢ y)
        arcs x y a =
            let (old, nx, ny) = unlinked_old b within j job x y a in
            let (lx, ly, ne) = within.limits.arcs x y old in
            (live x lx nx, live y ly ny, ne)

  pub link_within : (i k : ℕ) → Live (view b) i → Live (view b) k → i ≢ k → Within (link b i k)
  link_within i k li lk ne =
      record {
        shape = shape;
        limits = record { jobs = within.limits.jobs; rows = within.limits.rows; arcs = arcs };
        twice = linked_twice b within i k li.0 lk.0;
      }
    where
      shape : Shape (link b i k)
      shape =
          record {
            lengths = within.shape.lengths;
            earliest = within.shape.earliest;
            latest = within.shape.latest;
            marks = within.shape.marks;
            after = rw length-set within.shape.after;
            before = rw length-set within.shape.before;
          }

      arcs : (x y : ℕ) → Arc (view (link b i k)) x y → Live (view b) x × Live (view b) y × (x ≢ y)
      arcs =
          linked_arcs b within i k li.0 lk.0 (λ x y. Live (view b) x × Live (view b) y × (x ≢ y)) (li, lk, ne) within.limits.arcs

-- ---- the books

-- the limits of a board don't read its books
pub within_books : (b : Board) (books : Books) → Within b → Within (with_books b books)
within_books b books h = record { shape = h.shape; limits = h.limits; twice = h.twice }

pub within_tally : (books : Books) (tally : ℕ) → BooksWithin books → tally ≤ tally_limit → BooksWithin (with_tally books tally)
within_tally books tally h fits = record { tally = fits }
