-- Nothing is lost, in the paper's words: a schedule makes a closed board over the entries. So every schedule keeps what the
-- least closed board shows, and entries that contradict each other have no schedule.
use Rattle.std.specs.Prelude.{◌≡◌, refl, ◌≢◌, Bool, true, false, cond, ℕ, ◌<◌}
use Rattle.std.proofs.Common.{ap, arith, lt-ltb, le-ltb}
use Rattle.std.proofs.Math.Decide.{dec_lt}
use Rattle.ground_arithmetic.specs.Bools.{refuted}
use Rattle.ground_arithmetic.specs.Linear.{whole, plus}
use Rattle.paper_board.specs.declared.Board.{Board}
use Rattle.paper_board.specs.Paper.Parts.{empty_books}
use Rattle.paper_board.specs.Paper.View.{Live, Arc, view}
use Rattle.paper_board.specs.Paper.Limits.{Fits, RowLimits, Limited}
use Rattle.paper_rules.specs.Paper.Entries.{Entries, Admissible}
use Rattle.paper_rules.specs.Paper.Closed.{Closed, Least, Contradiction}
use Rattle.paper_rules.specs.Paper.Schedules.{Placing, Placed, Schedule, Keeps}
use Rattle.paper_rules.proofs.BoardOf.{board_of, closed_board, least_below}
use Rattle.paper_rules.specs.Update.StoreWithin.{live_row, invalid_row, blank_row}
use Rattle.paper_rules.specs.Schedule.Scheduled.{placed_row, absent_row, scheduled, placed_live, arc_read}
use Rattle.paper_rules.specs.Schedule.ScheduledObeys.{scheduled_obeys}
use Rattle.paper_rules.specs.Schedule.ScheduledShows.{scheduled_shows, kept}

module _ (es : Entries) (p : Placing) (ok : Admissible es) (h : Schedule es p) where
  -- a job that takes place lies inside the window entered, whose times are within the limits
  placed_fits : (j : ℕ) → Placed p j → Fits (placed_row es p j)
  placed_fits j e =
      let fits = ok.rows j (h.added j e) λ m. refuted (h.invalid j (h.added j e) m) e in
      omega (whole, fits, h.earliest j e, h.latest j e, plus (p.start j) (es.row j).length)

  scheduled_limited : Limited (scheduled es p)
  scheduled_limited = record { jobs = ok.jobs; rows = λ k. row k (p.placed k) refl; arcs = arcs }
    where
      absent : (k : ℕ) → Dec (k < es.jobs) → RowLimits es.jobs k (absent_row es k)
      absent k (yes l) = rw (lt-ltb k es.jobs l) (invalid_row es.jobs k l)
      absent k (no n) = rw (le-ltb k es.jobs (omega arith)) (blank_row es.jobs k (omega arith))

      row : (k : ℕ) (t : Bool) → p.placed k ≡ t → RowLimits es.jobs k (cond t (placed_row es p k) (absent_row es k))
      row k true e = live_row es.jobs k (placed_row es p k) (h.added k e) (omega arith) (placed_fits k e)
      row k false e = absent k (dec_lt k es.jobs)

      live : (j : ℕ) → Placed p j → Live (scheduled es p) j
      live j e = placed_live es p j (h.added j e) e

      arcs : (i k : ℕ) → Arc (scheduled es p) i k → Live (scheduled es p) i × Live (scheduled es p) k × (i ≢ k)
      arcs i k a =
          let (ei, ek, before) = arc_read es p i k a in (
            live i ei,
            live k ek,
            λ e.
                omega (whole, ap p.start e, (placed_fits i ei).length.low, plus (p.start i) (es.row i).length),
          )

-- ---- the theorems

pub schedule_closed : (es : Entries) (p : Placing) → Admissible es → Schedule es p → Closed es (board_of (scheduled es p) empty_books)
schedule_closed es p ok h =
    closed_board es (scheduled es p) (scheduled_limited es p ok h) (scheduled_shows es p ok h) (scheduled_obeys es p ok h)

pub least_keeps : (es : Entries) (b : Board) → Admissible es → Least es b → (p : Placing) → Schedule es p → Keeps (view b) p
least_keeps es b ok least p h =
    kept es p (view b) least.closed.shows.count h
    (least_below es b least (scheduled es p) (scheduled_limited es p ok h) (schedule_closed es p ok h))

pub contradiction_unscheduled : (es : Entries) → Admissible es → Contradiction es → (p : Placing) → Schedule es p → ⊥
contradiction_unscheduled es ok none p h = none (board_of (scheduled es p) empty_books) (schedule_closed es p ok h)
