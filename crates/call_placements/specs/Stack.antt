-- What is left to be tried, as a function of the planner's stack: each job placed is there with the set of jobs that were still to be
-- tried then, the last one first. Each move of the loop has its law.
use Rattle.std.specs.Prelude.{◌≡◌, true, false, ◌&&◌, List, [], ◌∷◌}
use Rattle.std.proofs.Math.Path.{refl, sym, ap}
use Rattle.std.proofs.Common.{◌∙◌, arith, ℕ, zero, suc, ◌+◌}
use Rattle.ground_sets.specs.Bit.{bit}
use Rattle.paper_board.specs.Paper.View.{View}
use Rattle.call_placements.specs.declared.stack.Placed.{Placed}
use Rattle.paper_plans.specs.Paper.Lists.{range, keep}
use Rattle.paper_plans.specs.Paper.Tries.{Ending, found, none, add, ◌or_else◌, ready, in_time, unplaced, try, from, search}
use Rattle.paper_plans.specs.EndingLaws.{add_zero, add_add, add_or_else, or_else_assoc}

-- the jobs placed, the last one first
abbrev pub jobs_of : List Placed → List ℕ
jobs_of [] = []
jobs_of (p ∷ ps) = p.job ∷ jobs_of ps

-- the members of a set, in ascending number
abbrev pub members : View → ℕ → List ℕ
members v w = keep (bit w) (range 0 v.jobs)

module _ (v : View) (order : List ℕ) where
  -- the tries from the list ps where n jobs are not placed and those of `left` are still to be tried
  unfoldable pub here : ℕ → List ℕ → ℕ → Ending
  here zero ps left = found 0 ps
  here (suc n) ps left = from v order (search v order n) ps (members v left)

  -- the tries once the last placing is taken back, and then those before it
  unfoldable pub back : List Placed → ℕ → Ending
  back [] n = none 0
  back (p ∷ ps) n = here (suc n) (jobs_of ps) p.left or_else back ps (suc n)

  pub search_here : (n : ℕ) (ps : List ℕ) (left : ℕ) → members v left ≡ unplaced v order ps → search v order n ps ≡ here n ps left
  unfolding search here
  search_here zero ps left e = refl
  search_here (suc n) ps left e = rw e

  -- the moves: `whole` is what the tries come to, of which t have been made
  module _ (whole : Ending) (t n : ℕ) (ps : List ℕ) (left : ℕ) (later : Ending)
      (so_far : whole ≡ add t (here (suc n) ps left or_else later)) where
    -- nothing is left to be tried from this list
    pub tried_all : members v left ≡ [] → whole ≡ add t later
    unfolding here from ◌or_else◌
    tried_all e = so_far ∙ ap (add t) (rw e (add_zero later))

    module _ (j left' : ℕ) (next : members v left ≡ j ∷ members v left') where
      -- a try is due
      pub try_due : whole ≡ add (t + 1) (try v order (search v order n) ps j or_else here (suc n) ps left' or_else later)
      unfolding here from
      try_due =
          so_far
          ∙ ap (add t) (rw next (or_else_assoc _ _ later ∙ sym (add_or_else 1 _ _)))
          ∙ add_add t 1 _

      -- the try does not place the job
      pub not_placed : (ready v order ps j && in_time v ps j) ≡ false → whole ≡ add (t + 1) (here (suc n) ps left' or_else later)
      unfolding ◌or_else◌
      not_placed e = try_due ∙ ap (add (t + 1)) (rw e (add_zero _))

      -- it does
      pub placed : (ready v order ps j && in_time v ps j) ≡ true
          → whole ≡ add (t + 1) (search v order n (j ∷ ps) or_else here (suc n) ps left' or_else later)
      placed e = try_due ∙ ap (add (t + 1)) (rw e)

  -- all jobs are placed
  pub all_found : (whole : Ending) (t : ℕ) (ps : List ℕ) (left : ℕ) (later : Ending)
      → whole ≡ add t (here 0 ps left or_else later) → whole ≡ found t ps
  unfolding here ◌or_else◌ add
  all_found whole t ps left later e = e ∙ ap (λ (n : ℕ). found n ps) (omega arith)
