-- "Planner": the tries over any list of jobs in the order in which they are to be tried, on what a board shows.
use Rattle.std.specs.Prelude.{Bool, not, cond, ◌&&◌, List, [], ◌∷◌, ℕ, zero, suc, ◌+◌, eqb, ℤ, pos, ◌+ℤ◌, length}
use Rattle.std.specs.Int.Signed.{le_z}
use Rattle.ground_arithmetic.specs.Time.{greater}
use Rattle.paper_board.specs.Paper.View.{View}
use Rattle.paper_rules.specs.Paper.Rules.{E, D, L}
use Rattle.paper_rules.specs.Paper.Schedules.{Placing}
use Rattle.paper_board.specs.Paper.Tests.{implies}
use Rattle.paper_plans.specs.Paper.Lists.{keep, every, among}

-- How tries end, with their number: all jobs are placed, and the list of them has the last one first; or all have been tried
-- in vain.
pub data Ending : Type 0 where
  found : ℕ → List ℕ → Ending
  none : ℕ → Ending

-- the ending after t tries more
unfoldable pub add : ℕ → Ending → Ending
add t (found u ps) = found (t + u) ps
add t (none u) = none (t + u)

-- the second ending, after the tries of the first, where the first finds nothing
infixr 30 ◌or_else◌
unfoldable pub ◌or_else◌ : Ending → Ending → Ending
found t ps or_else o = found t ps
none t or_else o = add t o

module _ (v : View) where
  -- "its start is the later of E and the end of the job placed before, or E where none is"
  unfoldable pub start_after : List ℕ → ℕ → ℤ
  start_after [] j = E v j
  start_after (i ∷ ps) j = greater (E v j) (start_after ps i +ℤ L v i)

  -- the start of k where it was placed, and 0 where it was not
  unfoldable pub start_in : List ℕ → ℕ → ℤ
  start_in [] k = pos 0
  start_in (j ∷ ps) k = cond (eqb j k) (start_after ps j) (start_in ps k)

  -- "its plan, as a schedule, holds the placed jobs with their starts and no others"
  abbrev pub plan_of : List ℕ → Placing
  plan_of ps = record { placed = among ps; start = start_in ps }

  -- "its end is at most D"
  abbrev pub in_time : List ℕ → ℕ → Bool
  in_time ps j = le_z (start_after ps j +ℤ L v j) (D v j)

  module _ (order : List ℕ) where
    -- "every valid job with an arc to it is placed"
    abbrev pub ready : List ℕ → ℕ → Bool
    ready ps j = every (λ i. implies (v.arc i j) (among ps i)) order

    -- the jobs that are not placed, in their order
    abbrev pub unplaced : List ℕ → List ℕ
    unplaced ps = keep (λ j. not (among ps j)) order

    -- "A try places the job if every valid job with an arc to it is placed and its end is at most D"; "After a placing it goes
    -- on from the longer list", which is `deeper`
    abbrev pub try : (List ℕ → Ending) → List ℕ → ℕ → Ending
    try deeper ps j = cond (ready ps j && in_time ps j) (deeper (j ∷ ps)) (none 0)

    -- the jobs js still to be tried from the list ps: "Each job tried counts one"; "when all have been tried it takes back the
    -- last placing"
    unfoldable pub from : (List ℕ → Ending) → List ℕ → List ℕ → Ending
    from deeper ps [] = none 0
    from deeper ps (j ∷ js) = add 1 (try deeper ps j) or_else from deeper ps js

    -- The tries from the list ps, where n jobs are not placed yet: "It ends found when all valid jobs are placed, none when the
    -- empty list is exhausted."
    unfoldable pub search : ℕ → List ℕ → Ending
    search zero ps = found 0 ps
    search (suc n) ps = from (search n) ps (unplaced ps)

    -- "Starting from no jobs placed"
    abbrev pub tries : Ending
    tries = search (length order) []
