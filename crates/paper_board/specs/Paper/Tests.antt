-- The tests that the definitions of the paper compute with, each one line.
use Rattle.std.specs.Prelude.{Bool, true, false, not, ◌&&◌, ℕ, eqb, ltb, ℤ}
use Rattle.std.specs.Int.Signed.{le_z}
use Rattle.paper_board.specs.Paper.View.{View}
use Rattle.paper_board.specs.Paper.Limits.{first_minute, last_minute, shortest, longest}

-- "Live" means not marked 2
unfoldable pub live : View → ℕ → Bool
live v j = ltb j v.jobs && not (eqb (v.row j).mark 2)

unfoldable pub valid : View → ℕ → Bool
valid v j = ltb j v.jobs && eqb (v.row j).mark 1

unfoldable pub between : ℤ → ℤ → ℤ → Bool
between low high z = le_z low z && le_z z high

-- "Times are whole minutes, -500000 to 500000."
abbrev pub is_time : ℤ → Bool
is_time z = between first_minute last_minute z

-- "a length (1 to 10000 [..])"
abbrev pub is_length : ℤ → Bool
is_length z = between shortest longest z

-- does the second test hold where the first does?
unfoldable pub implies : Bool → Bool → Bool
implies true t = t
implies false t = true
