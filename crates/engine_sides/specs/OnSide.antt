-- The value for a side.
use Rattle.paper_board.specs.declared.facts.Side.{Side}
use Rattle.paper_board.specs.declared.facts.Side.TheVariants.{Early, Late}
use Rattle.engine_sides.specs.declared.Sides.{Sides}

abbrev pub value_on : {T : Type 0} → Sides T → Side → T
value_on sides Early = sides.early
value_on sides Late = sides.late

-- the pair with another value for a side
abbrev pub with_value : {T : Type 0} → Sides T → Side → T → Sides T
with_value sides Early value = record sides { early = value }
with_value sides Late value = record sides { late = value }
