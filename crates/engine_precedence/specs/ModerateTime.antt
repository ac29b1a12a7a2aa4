-- A time is as far from the ends of an i32 as its bound (`moderate_time`), and bounds are compared as the code does.
use Rattle.std.specs.Prelude.{◌≡◌, true, ℤ, ◌<ℤ◌}
use Rattle.std.specs.Int.Signed.{lt_z}
use Rattle.ground_arithmetic.specs.Linear.{whole, minus}
use Rattle.ground_arithmetic.specs.Time.{Moderate}
use Rattle.paper_board.specs.Paper.View.{Side, early, late}
use Rattle.paper_board.specs.Paper.Values.{turned}

pub moderate_time : (s : Side) (t : ℤ) → Moderate (turned s t) → Moderate t
moderate_time early t h = h
moderate_time late t h = (omega (whole, minus t), omega (whole, minus t))

-- a bound that the code finds below another
pub found_below : {a b : ℤ} → lt_z a b ≡ true → a <ℤ b
found_below e = omega whole
