-- Bounds are times: a time turned is a time, and so is a bound of a live job on either side.
use Rattle.std.specs.Prelude.{ℤ}
use Rattle.ground_arithmetic.specs.Linear.{whole, minus}
use Rattle.paper_board.specs.Paper.View.{Row, Side, early, late, bound}
use Rattle.paper_board.specs.Paper.Limits.{IsTime, Fits}
use Rattle.paper_board.specs.Paper.Values.{turned}

pub turned_time : (s : Side) (z : ℤ) → IsTime z → IsTime (turned s z)
turned_time early z t = t
turned_time late z t = record { low = omega (whole, t.high, minus z); high = omega (whole, t.low, minus z) }

pub bound_time : (s : Side) (r : Row) → Fits r → IsTime (bound s r)
bound_time early r f = f.earliest
bound_time late r f = turned_time late r.latest f.latest
