-- What the result of the checks stands for in the paper.
use Rattle.std.specs.Prelude.{Ok, Err}
use Rattle.std.specs.Prelude as std
use Rattle.std.proofs.Math.Option.{Option, none, some}
use Rattle.paper_board.specs.declared.Refusal.{Refusal}

-- the refusal that a call meets, if any
abbrev pub refusal_of : std.Result (Unit {0}) Refusal → Option Refusal
refusal_of (Ok _) = none
refusal_of (Err r) = some r
