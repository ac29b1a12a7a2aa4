-- A schedule makes a board: its jobs are valid, with their starts and ends for windows, and the others are invalid.
-- What the board shows of its jobs and arcs is what the schedule says of them.
use Rattle.std.specs.Prelude.{cond, ◌&&◌, ℕ, ◌<◌, ltb, ◌≤ℤ◌}
use Rattle.std.proofs.Common.{arith, lt-ltb}
use Rattle.std.specs.Int.Signed.{le_z}
use Rattle.ground_arithmetic.specs.Bools.{is_true, and_parts}
use Rattle.ground_arithmetic.specs.Linear.{whole}
use Rattle.paper_board.specs.Paper.View.{Row, View, Live, Arc}
use Rattle.paper_board.specs.Paper.Limits.{zero_row}
use Rattle.paper_rules.specs.Paper.Entries.{Entries}
use Rattle.paper_rules.specs.Paper.Schedules.{Placing, Placed, end}

-- the row of a job that takes place: it fills its window
abbrev pub placed_row : Entries → Placing → ℕ → Row
placed_row es p j = record { mark = 1; length = (es.row j).length; earliest = p.start j; latest = end es p j }

-- the row of a job that does not take place, and of a place without a job
abbrev pub absent_row : Entries → ℕ → Row
absent_row es j = zero_row (cond (ltb j es.jobs) 2 0)

-- An arc joins two jobs where the first ends no later than the second starts. A job that takes time has none to itself.
abbrev pub scheduled : Entries → Placing → View
scheduled es p =
    record {
      jobs = es.jobs;
      row = λ j. cond (p.placed j) (placed_row es p j) (absent_row es j);
      arc = λ i k. p.placed i && p.placed k && le_z (end es p i) (p.start k);
    }

module _ (es : Entries) (p : Placing) where
  pub live_placed : (j : ℕ) → Live (scheduled es p) j → Placed p j
  live_placed j (l, n) = is_true (p.placed j) λ e. n (rw (e, lt-ltb j es.jobs l))

  pub placed_live : (j : ℕ) → j < es.jobs → Placed p j → Live (scheduled es p) j
  placed_live j l e = (l, rw e (omega arith))

  pub arc_read : (i k : ℕ) → Arc (scheduled es p) i k → Placed p i × Placed p k × (end es p i ≤ℤ p.start k)
  arc_read i k a =
      let (both, h) = and_parts (p.placed i && p.placed k) (le_z (end es p i) (p.start k)) a in
      let (e, d) = and_parts (p.placed i) (p.placed k) both in
      (e, d, omega whole)

  pub arc_show : (i k : ℕ) → Live (scheduled es p) i → Live (scheduled es p) k → end es p i ≤ℤ p.start k → Arc (scheduled es p) i k
  arc_show i k li lk h = rw (live_placed i li, live_placed k lk) (omega whole)
