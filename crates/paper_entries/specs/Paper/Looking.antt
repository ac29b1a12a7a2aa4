-- "Looking at the board": the answers of row and pair, for every board handed in and all numbers.
use Rattle.std.specs.Prelude.{true, false, cond, ◌&&◌, [], ◌∷◌, ℕ, ◌+◌, ℤ, pos, ◌-ℤ◌, get_or, Ok, Err}
use Rattle.std.proofs.Math.Option.{none, some}
use Rattle.paper_board.specs.declared.Board.{Board}
use Rattle.paper_board.specs.declared.Refusal.TheVariants as Refused
use Rattle.paper_board.specs.Paper.View.{row_of, arc_of, view}
use Rattle.paper_board.specs.Paper.Tests.{live}
use Rattle.paper_closure.specs.Passes.{passes}
use Rattle.paper_entries.specs.Paper.Entry.{number}
use Rattle.paper_entries.specs.Paper.Answers.{RowAnswer, PairAnswer}
use Rattle.paper_entries.specs.Paper.Checks.{job_check, pair_checks, first_refusal}

-- "Row of a job: mark, E, D, the set before it and the set after it."
abbrev pub row_shown : Board → ℕ → RowAnswer
row_shown b j =
    Ok
    (record {
      mark = (row_of b j).mark;
      earliest = (row_of b j).earliest;
      latest = (row_of b j).latest;
      before = get_or b.before j 0;
      after = get_or b.after j 0;
    })

-- refusals 0 and 2
unfoldable pub row : Board → ℤ → RowAnswer
row b j =
    elim (passes b) [
      | false ↦ Err Refused.Board
      | true ↦ elim (first_refusal (job_check b.jobs j ∷ [])) [ some r ↦ Err r | none ↦ row_shown b (number j) ]
    ]

-- "0 no arc, 1 A to B, 2 B to A, 3 both"
abbrev pub arcs : Board → ℕ → ℕ → ℕ
arcs b x y = cond (arc_of b x y) 1 0 + cond (arc_of b y x) 2 0

-- "and the gap, which is E of B minus D of A and may be negative. If either is invalid, both numbers are 0."
abbrev pub pair_shown : Board → ℕ → ℕ → PairAnswer
pair_shown b x y =
    cond
    (live (view b) x && live (view b) y)
    (Ok (record { arcs = arcs b x y; gap = (row_of b y).earliest -ℤ (row_of b x).latest }))
    (Ok (record { arcs = 0; gap = pos 0 }))

-- refusals 0, 2 and 3
unfoldable pub pair : Board → ℤ → ℤ → PairAnswer
pair b x y =
    elim (passes b) [
      | false ↦ Err Refused.Board
      | true ↦ elim (first_refusal (pair_checks b.jobs x y)) [ some r ↦ Err r | none ↦ pair_shown b (number x) (number y) ]
    ]
