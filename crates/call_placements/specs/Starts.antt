-- The starts of the jobs placed, listed one after the other in the order of placing.
use Rattle.std.specs.Prelude.{◌≡◌, true, List, [], ◌∷◌, ℕ, ℤ, pos, ◌+ℤ◌, set, replicate}
use Rattle.std.proofs.Math.Path.{refl, sym}
use Rattle.std.proofs.Common.{◌∙◌, take, drop, reverse, ◌++◌, length, get_or, ◌+◌, ◌<◌}
use Rattle.std.proofs.lemmas.List.{take_more, reverse-append, take-append-drop}
use Rattle.ground_arithmetic.specs.Time.{greater}
use Rattle.paper_board.specs.declared.Board.{Board}
use Rattle.paper_board.specs.Paper.Limits.{Within, first_minute, job_limit}
use Rattle.paper_rules.specs.Paper.Rules.{E, L}
use Rattle.paper_board.specs.Paper.View.{view}
use Rattle.paper_plans.specs.Paper.Planner.{start_list}
use Rattle.paper_plans.specs.Paper.Tries.{start_after, in_time}
use Rattle.call_placements.specs.declared.stack.Placed.{Placed}
use Rattle.call_placements.specs.Stack.{jobs_of}
use Rattle.call_placements.specs.PlannerState.{EndInTime, FreeFrom, free_at_first, free_after}

-- the jobs at the start of a list in the order of placing, and the next one
pub one_more : (items : List Placed) (k : ℕ) (d : Placed) → k < length items
    → jobs_of (reverse (take (k + 1) items)) ≡ (get_or items k d).job ∷ jobs_of (reverse (take k items))
one_more items k d l = rw (take_more items k d l, reverse-append (take k items) (get_or items k d ∷ []))

module _ (b : Board) where
  below : (xs ys : List Placed) → EndInTime b (jobs_of (xs ++ ys)) → EndInTime b (jobs_of ys)
  below [] ys e = e
  below (x ∷ xs) ys e = below xs ys e.1

  -- each job of the list ends in time where it is placed after those before it
  pub turn_ends : (items : List Placed) (k : ℕ) (d : Placed) → EndInTime b (jobs_of (reverse items)) → k < length items
      → EndInTime b ((get_or items k d).job ∷ jobs_of (reverse (take k items)))
  turn_ends items k d e l =
      let whole = rw (← take-append-drop (k + 1) items, reverse-append (take (k + 1) items) (drop (k + 1) items)) at e in
      rw (one_more items k d l) at (below (reverse (drop (k + 1) items)) (reverse (take (k + 1) items)) whole)

  -- the starts of the jobs ps, the last one first, and the minute from which the dock is free after them
  pub record Listed (ps : List ℕ) (starts : List ℤ) (free : ℤ) : Type 0 where
    pub dock : FreeFrom b ps free
    pub list : starts ≡ start_list (view b) ps

  module _ (h : Within b) where
    pub none_listed : Listed [] (replicate job_limit (pos 0)) first_minute
    unfolding start_list
    none_listed = record { dock = free_at_first b h; list = refl }

    pub next_listed : (ps : List ℕ) (j : ℕ) (starts : List ℤ) (free start finish : ℤ) → Listed ps starts free
        → in_time (view b) ps j ≡ true → start ≡ greater (E (view b) j) free → finish ≡ start +ℤ L (view b) j
        → Listed (j ∷ ps) (set starts j start) finish
    unfolding start_list
    next_listed ps j starts free start finish s ends begins e =
        let is : start ≡ start_after (view b) ps j = begins ∙ sym (s.dock.start j) in
        record {
          dock = rw (e, is) (free_after b h j ps free s.dock ends);
          list = rw (is, s.list);
        }
