-- A schedule's board shows the entries, and what a board below it shows, the schedule keeps.
use Rattle.std.specs.Prelude.{◌≡◌, refl, Bool, true, false, cond, ℕ, ◌<◌}
use Rattle.std.proofs.Common.{sym, arith, lt-ltb}
use Rattle.ground_arithmetic.specs.Bools.{is_false, refuted}
use Rattle.ground_arithmetic.specs.Linear.{whole}
use Rattle.paper_board.specs.Paper.View.{View, early, late}
use Rattle.paper_board.specs.Paper.Facts.{Fact, is_arc, is_bound, is_valid, is_invalid, Holds, AboutJobs}
use Rattle.paper_rules.specs.Order.OrderLaws.{shown_invalid}
use Rattle.paper_rules.specs.Inference.Forced.{valid_live}
use Rattle.paper_rules.specs.Paper.Entries.{Entries, Admissible, Shown, Shows, Drawn, drawn, shown, ◌⊑◌}
use Rattle.paper_rules.specs.Paper.Schedules.{Placing, Respects, Schedule, Keeps}
use Rattle.paper_rules.specs.Schedule.KeepsSchedule.{keeps_schedule}
use Rattle.paper_rules.specs.Schedule.Scheduled.{placed_row, absent_row, scheduled, live_placed, arc_read, arc_show}

pub scheduled_shows : (es : Entries) (p : Placing) → Admissible es → Schedule es p → Shows es (scheduled es p)
scheduled_shows es p ok h =
    record {
      count = refl;
      at_least =
          record {
            jobs = omega arith;
            rows = λ k l. row k l (p.placed k) refl;
            facts = λ f e. fact f (ok.about f e) (h.facts f e);
          };
    }
  where
    row : (k : ℕ) → k < es.jobs → (t : Bool) → p.placed k ≡ t → Shown (es.row k) (cond t (placed_row es p k) (absent_row es k))
    row k l true e =
        record {
          valid = λ m. refl;
          invalid = λ m. absurd (refuted (h.invalid k l m) e);
          length = λ n. refl;
          earliest = λ n. h.earliest k e;
          latest = λ n. h.latest k e;
        }
    row k l false e =
        shown_invalid (es.row k) (absent_row es k) (λ m. refuted e (h.valid k l m)) (rw (lt-ltb k es.jobs l))

    fact : (f : Fact) → AboutJobs es.jobs f → Respects es p f → Holds (scheduled es p) f
    fact (is_arc i k) (li, lk, ne) r = (li, lk, λ a b. arc_show es p i k a b (r (live_placed es p i a) (live_placed es p k b)))
    fact (is_bound early j z) l r = (l, λ a. let placed = live_placed es p j a in rw placed (r placed))
    fact (is_bound late j z) l r = (l, λ a. let placed = live_placed es p j a in rw placed (r placed))
    fact (is_valid j) l r = (l, rw r)
    fact (is_invalid j) l r = (l, rw (r, lt-ltb j es.jobs l))

-- a schedule keeps what its own board shows
keeps_own : (es : Entries) (p : Placing) → Schedule es p → Keeps (scheduled es p) p
keeps_own es p h =
    record {
      added = h.added;
      valid = λ j l m. live_placed es p j (valid_live w j (l, m));
      invalid = λ j l m. is_false (p.placed j) λ e. omega (arith, rw e at m);
      earliest = λ j e. rw e (omega whole);
      latest = λ j e. rw e (omega whole);
      facts = fact;
      apart = λ i k ei ek ne. rw (ei, ek) (h.apart i k ei ek ne);
    }
  where
    w : View
    w = scheduled es p

    fact : (f : Fact) → Drawn w f → Respects (shown w) p f
    fact _ (drawn i k a) = λ ei ek. rw ei (arc_read es p i k a).2

pub kept : (es : Entries) (p : Placing) (v : View) → v.jobs ≡ es.jobs → Schedule es p → v ⊑ scheduled es p → Keeps v p
kept es p v same h up =
    keeps_schedule (shown v) (scheduled es p) (record { count = sym same; at_least = up }) p (keeps_own es p h)
