-- Updates: the least board above b where one more fact holds, or none where a mark would have to change.
-- Entries and rules go through the same four, and the window test R6 follows every raise at once.
use Rattle.std.specs.Prelude.{cond, ◌&&◌, List, map, ℕ, suc, eqb, ℤ, neg_ℤ, get_or, set}
use Rattle.std.proofs.Math.Option.{Option, none, some}
use Rattle.std.specs.Int.Signed.{lt_z}
use Rattle.ground_sets.specs.Bit.{with, without}
use Rattle.paper_board.specs.declared.Board.{Board}
use Rattle.paper_board.specs.Paper.Parts.{filled, with_jobs}
use Rattle.paper_board.specs.Paper.View.{Row, Side, early, late, bound, row_of, view}
use Rattle.paper_board.specs.Paper.Facts.{Fact, is_arc, is_bound, is_valid, is_invalid}
use Rattle.paper_board.specs.Paper.Tests.{live}
use Rattle.paper_board.specs.BoardTests.Live.{roomy}
use Rattle.paper_board.specs.Paper.Limits.{job_limit, zero_row}

-- row j stored anew
abbrev pub store : Board → ℕ → Row → Board
store b j r =
    filled b
    (set b.lengths j r.length)
    (set b.earliest j r.earliest)
    (set b.latest j r.latest)
    (set b.marks j r.mark)
    b.after
    b.before

-- an arc i to k, in both words that keep it
abbrev pub link : Board → ℕ → ℕ → Board
link b i k =
    filled b b.lengths b.earliest b.latest b.marks
    (set b.after i (with (get_or b.after i 0) k))
    (set b.before k (with (get_or b.before k 0) i))

-- the words without job j, and no arcs of its own
abbrev pub isolate : List ℕ → ℕ → List ℕ
isolate words j = set (map (λ w. without job_limit w j) words) j 0

-- "An invalid job holds length 0, E 0, D 0 and no arcs"
abbrev pub invalidate : Board → ℕ → Board
invalidate b j =
    let c = store b j (zero_row 2) in
    filled c c.lengths c.earliest c.latest c.marks (isolate b.after j) (isolate b.before j)

-- a row with its bound on one side raised to z
abbrev pub raised : Side → ℤ → Row → Row
raised early z r = record { mark = r.mark; length = r.length; earliest = z; latest = r.latest }
raised late z r = record { mark = r.mark; length = r.length; earliest = r.earliest; latest = neg_ℤ z }

-- a row with another mark
abbrev pub marked : ℕ → Row → Row
marked m r = record { mark = m; length = r.length; earliest = r.earliest; latest = r.latest }

-- "makes an undecided job invalid and a valid one a contradiction"
unfoldable pub exclude : Board → ℕ → Option Board
exclude b j = cond (eqb (row_of b j).mark 1) none (some (cond (eqb (row_of b j).mark 2) b (invalidate b j)))

unfoldable pub tighten : Board → ℕ → Row → Option Board
tighten b j r = cond (roomy r) (some (store b j r)) (exclude b j)

unfoldable pub update : Board → Fact → Option Board
update b (is_arc i k) = some (cond (live (view b) i && live (view b) k) (link b i k) b)
update b (is_bound s j z) =
    cond (live (view b) j && lt_z (bound s (row_of b j)) z) (tighten b j (raised s z (row_of b j))) (some b)
update b (is_valid j) = cond (eqb (row_of b j).mark 2) none (some (store b j (marked 1 (row_of b j))))
update b (is_invalid j) = exclude b j

-- a job added: its row at the first place without a job
abbrev pub append : Board → Row → Board
append b r = with_jobs (store b b.jobs r) (suc b.jobs)

-- one step and then another, where the first finds a board
infixl 20 ◌and_then◌
unfoldable pub ◌and_then◌ : Option Board → (Board → Option Board) → Option Board
none and_then k = none
some c and_then k = k c
