-- A job's window by itself, as the code carries it.
use Rattle.std.specs.Prelude.{ℤ, neg_ℤ}
use Rattle.engine_windows.specs.declared.Window.{Window}
use Rattle.paper_board.specs.Paper.View.{Row, Side, early, late}

-- the window's bound on one side
abbrev pub edge : Side → Window → ℤ
edge early w = w.earliest
edge late w = neg_ℤ w.latest

-- the window with its end on one side put to time t
abbrev pub bounded : Side → ℤ → Window → Window
bounded early t w = record { earliest = t; latest = w.latest }
bounded late t w = record { earliest = w.earliest; latest = t }

abbrev pub window_of : Row → Window
window_of r = record { earliest = r.earliest; latest = r.latest }

-- a row with another window
abbrev pub moved : Window → Row → Row
moved w r = record { mark = r.mark; length = r.length; earliest = w.earliest; latest = w.latest }
