-- The closure: the rules applied until nothing is left to infer, or a mark would have to change.
use Rattle.std.proofs.Math.Option.{Option, none, some}
use Rattle.std.specs.Prelude.{ℕ, zero, suc, ◌+◌, ◌*◌}
use Rattle.paper_board.specs.declared.Board.{Board}
use Rattle.paper_board.specs.Paper.View.{view}
use Rattle.paper_board.specs.Paper.Limits.{job_limit}
use Rattle.paper_rules.specs.Update.Updates.{update, ◌and_then◌}
use Rattle.paper_closure.specs.Find.{find}

-- Each inference uses up a minute of a window, an arc or a live job, so that there are never more steps than this.
abbrev pub steps : ℕ
steps = job_limit * 2000001 + job_limit * job_limit

-- at most n steps; with more steps allowed than there are inferences to make, the first clause is never met
unfoldable pub close : ℕ → Board → Option Board
close zero b = some b
close (suc n) b = elim (find (view b)) [ none ↦ some b | some f ↦ update b f and_then (λ c. close n c) ]

unfoldable pub closure : Board → Option Board
closure b = close (suc steps) b
