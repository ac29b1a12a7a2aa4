-- A placing that keeps what a view shows is a schedule of all entries that the view shows.
use Rattle.std.specs.Prelude.{◌≡◌, ℕ, ◌<◌}
use Rattle.std.proofs.Common.{arith}
use Rattle.ground_arithmetic.specs.Bools.{refuted}
use Rattle.ground_arithmetic.specs.Linear.{whole, minus}
use Rattle.paper_board.specs.Paper.View.{View, Live, early, late}
use Rattle.paper_board.specs.Paper.Facts.{Fact, is_arc, is_bound, is_valid, is_invalid, Holds}
use Rattle.paper_rules.specs.Paper.Entries.{Entries, Shown, Shows, drawn, shown}
use Rattle.paper_rules.specs.Paper.Schedules.{Placing, Placed, end, Respects, Schedule, Keeps}

pub keeps_schedule : (es : Entries) (v : View) → Shows es v → (p : Placing) → Keeps v p → Schedule es p
keeps_schedule es v shows p h =
    record {
      added = added;
      valid = λ j l m. h.valid j (omega (arith, shows.count)) ((entered j l).valid m);
      invalid = λ j l m. h.invalid j (omega (arith, shows.count)) ((entered j l).invalid m);
      earliest = λ j e. omega (whole, (entered j (added j e)).earliest (live j e).1, h.earliest j e);
      latest = λ j e. omega (whole, (entered j (added j e)).latest (live j e).1, h.latest j e, same_end j e);
      facts = λ f e. fact f (shows.at_least.facts f e);
      apart = λ i k ei ek ne. rw (same_end i ei, same_end k ek) (h.apart i k ei ek ne);
    }
  where
    added : (j : ℕ) → Placed p j → j < es.jobs
    added j e = omega (arith, h.added j e, shows.count)

    entered : (j : ℕ) → j < es.jobs → Shown (es.row j) (v.row j)
    entered = shows.at_least.rows

    -- a job that takes place is not marked 2
    live : (j : ℕ) → Placed p j → Live v j
    live j e = (h.added j e, λ m. refuted (h.invalid j (h.added j e) m) e)

    same_end : (j : ℕ) → Placed p j → end es p j ≡ end (shown v) p j
    same_end j e = rw ((entered j (added j e)).length (live j e).1)

    fact : (f : Fact) → Holds v f → Respects es p f
    fact (is_arc i k) (li, lk, arc) = λ ei ek. rw (same_end i ei) (h.facts (is_arc i k) (drawn i k (arc (live i ei) (live k ek))) ei ek)
    fact (is_bound early j z) (l, low) = λ e. omega (whole, low (live j e), h.earliest j e)
    fact (is_bound late j z) (l, low) = λ e.
        omega (whole, low (live j e), h.latest j e, same_end j e, minus (v.row j).latest, minus (end es p j))
    fact (is_valid j) (l, m) = h.valid j l m
    fact (is_invalid j) (l, m) = h.invalid j l m
