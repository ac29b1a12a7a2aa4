-- What the values of the code's types stand for in the paper.
use Rattle.std.specs.Prelude.{ℤ, neg_ℤ}
use Rattle.paper_board.specs.declared.facts.Side as Sides
use Rattle.paper_board.specs.declared.facts.Fact as Facts
use Rattle.paper_board.specs.Paper.View.{Side, early, late}
use Rattle.paper_board.specs.Paper.Facts.{Fact, is_arc, is_bound, is_valid, is_invalid}

abbrev pub side_of : Sides.Side → Side
side_of Sides.TheVariants.Early = early
side_of Sides.TheVariants.Late = late

-- a time as a bound on one side, and a bound as a time
abbrev pub turned : Side → ℤ → ℤ
turned early z = z
turned late z = neg_ℤ z

abbrev pub fact_of : Facts.Fact → Fact
fact_of (Facts.TheVariants.Arc i k) = is_arc i k
fact_of (Facts.TheVariants.Bound s j t) = is_bound (side_of s) j (turned (side_of s) t)
fact_of (Facts.TheVariants.Valid j) = is_valid j
fact_of (Facts.TheVariants.Invalid j) = is_invalid j
