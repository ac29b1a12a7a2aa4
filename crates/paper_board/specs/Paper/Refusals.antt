-- "Refusals by the gate": the number that the table gives each refusal.
use Rattle.std.specs.Prelude.{ℕ}
use Rattle.paper_board.specs.declared.Refusal.{Refusal}
use Rattle.paper_board.specs.declared.Refusal.TheVariants as R

abbrev pub number_of : Refusal → ℕ
number_of R.Board = 0
number_of R.Full = 1
number_of R.Job = 2
number_of R.Same = 3
number_of R.Length = 4
number_of R.Time = 5
number_of R.Window = 6
number_of R.Mark = 7
number_of R.Impossible = 8
number_of R.Budget = 9
number_of R.Form = 10
number_of R.Load = 11
