-- Which facts an update by the code can take.
use Rattle.ground_arithmetic.specs.Time.{Moderate}
use Rattle.paper_board.specs.declared.facts.Fact as Facts

-- a bound's time is far from the ends of an i32
abbrev pub Applicable : Facts.Fact → Type 0
Applicable (Facts.TheVariants.Arc i k) = Unit
Applicable (Facts.TheVariants.Bound s j t) = Moderate t
Applicable (Facts.TheVariants.Valid j) = Unit
Applicable (Facts.TheVariants.Invalid j) = Unit
