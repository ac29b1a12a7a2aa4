-- What the planner's loop keeps: the jobs placed with what each placing left behind, the set that waits, when the dock is free, and
-- what the tries made so far and those left come to.
use Rattle.std.specs.Prelude.{◌≡◌, refl, true, ◌&&◌, eqb, List, [], ◌∷◌, ℕ, ◌+◌, ◌≤◌, ℤ, ◌+ℤ◌, length, get_or}
use Rattle.std.proofs.Math.Path.{sym}
use Rattle.std.specs.Int.Signed.{le_z}
use Rattle.ground_sets.specs.Bit.{bit, intersection}
use Rattle.ground_arithmetic.specs.Linear.{whole, plus}
use Rattle.ground_arithmetic.specs.Time.{greater, greater_left, greater_first}
use Rattle.paper_board.specs.declared.Board.{Board}
use Rattle.paper_board.specs.Paper.View.{view}
use Rattle.paper_board.specs.Paper.Limits.{Within, IsTime, first_minute}
use Rattle.paper_rules.specs.Paper.Rules.{E, D, L}
use Rattle.paper_board.specs.BoardTests.Decides.{at_most}
use Rattle.paper_board.specs.Paper.Tests.{valid}
use Rattle.paper_board.specs.BoardTests.Ranges.{ranges}
use Rattle.paper_plans.specs.Paper.Tries.{Ending, add, ◌or_else◌, start_after, in_time, ready, tries}
use Rattle.call_placements.specs.declared.stack.Placed.{Placed}
use Rattle.call_placements.specs.Stack.{jobs_of, here, back}
use Rattle.call_placements.specs.Waiting.{order, Waiting, WaitingWord, waiting_count, ready_word}

module _ (b : Board) where
  -- The dock is free from a minute on, after the jobs ps: "the later of E and the end of the job placed before, or E where none
  -- is".
  pub record FreeFrom (ps : List ℕ) (free : ℤ) : Type 0 where
    pub time : IsTime free
    pub start : (j : ℕ) → start_after (view b) ps j ≡ greater (E (view b) j) free

  -- Job j placed after the jobs ps, with those that were still to be tried and the minute from which the dock was free.
  pub record Placement (ps : List ℕ) (j left : ℕ) (free : ℤ) : Type 0 where
    pub job : Waiting b ps j
    pub untried : (k : ℕ) → bit left k ≡ true → Waiting b ps k
    pub dock : FreeFrom ps free
    pub ends : in_time (view b) ps j ≡ true

  -- the jobs of a stack, each placed after those below it
  abbrev pub Placements : List Placed → Type 0
  Placements [] = Unit {0}
  Placements (p ∷ ps) = Placement (jobs_of ps) p.job p.left p.free × Placements ps

  -- each of these jobs, the last one first, is valid and, placed after those before it, ends in time
  abbrev pub EndInTime : List ℕ → Type 0
  EndInTime [] = Unit {0}
  EndInTime (j ∷ js) = ((valid (view b) j ≡ true) × (in_time (view b) js j ≡ true)) × EndInTime js

  pub placements_end : (ps : List Placed) → Placements ps → EndInTime (jobs_of ps)
  placements_end [] s = tt
  placements_end (p ∷ ps) s = ((s.0.job.0, s.0.ends), placements_end ps s.1)

  abbrev pub ending : Ending
  ending = tries (view b) (order b)

  -- what is left to be tried
  abbrev rest : List Placed → ℕ → Ending
  rest placed left =
      here (view b) (order b) (waiting_count b (jobs_of placed)) (jobs_of placed) left
      or_else back (view b) (order b) placed (waiting_count b (jobs_of placed))

  pub record PlannerState (placed : List Placed) (unplaced left : ℕ) (free : ℤ) (made budget : ℕ) : Type 0 where
    pub placements : Placements placed
    pub waiting : WaitingWord b unplaced (jobs_of placed)
    pub untried : (k : ℕ) → bit left k ≡ true → Waiting b (jobs_of placed) k
    pub dock : FreeFrom (jobs_of placed) free
    pub affordable : made ≤ budget
    pub counted : length placed + waiting_count b (jobs_of placed) ≡ length (order b)
    pub so_far : ending ≡ add made (rest placed left)

  module _ (h : Within b) where
    -- before any job
    pub free_at_first : FreeFrom [] first_minute
    unfolding start_after
    free_at_first =
        record {
          time = record { low = omega whole; high = omega whole };
          start = λ j. sym (greater_first (E (view b) j) first_minute (ranges b h j).earliest.low);
        }

    -- after one that ends in time
    pub free_after : (j : ℕ) (ps : List ℕ) (free : ℤ) → FreeFrom ps free → in_time (view b) ps j ≡ true
        → FreeFrom (j ∷ ps) (start_after (view b) ps j +ℤ L (view b) j)
    unfolding start_after
    free_after j ps free f e =
        let r = ranges b h j in
        let s = start_after (view b) ps j in
        let late = (at_most (s +ℤ L (view b) j) (D (view b) j)).yes e in
        let early = rw (← f.start j) at (greater_left (E (view b) j) free) in
        let sum = plus s (L (view b) j) in
        record {
          time = record { low = omega (whole, sum, early, r.low, r.earliest.low); high = omega (whole, late, r.latest.high) };
          start = λ k. refl;
        }

    -- the code's test of a try, on the set that waits and on the minute at which the job would end
    pub try_test : (w j : ℕ) (ps : List ℕ) (finish : ℤ) → WaitingWord b w ps → finish ≡ start_after (view b) ps j +ℤ L (view b) j
        → (eqb (intersection (get_or b.before j 0) w) 0 && le_z finish (D (view b) j)) ≡ (ready (view b) (order b) ps j && in_time (view b) ps j)
    try_test w j ps finish is ends = rw (ready_word b h w j ps is, ends)
