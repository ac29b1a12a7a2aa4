-- What is stated, concluded: by the board that shows it already, or by the attempt.
use Rattle.std.specs.Prelude.{◌≡◌, true}
use Rattle.std.proofs.Math.Option.{Option, none, some}
use Rattle.paper_board.specs.declared.Board.{Board}
use Rattle.paper_board.specs.declared.Refusal.TheVariants as Refused
use Rattle.paper_rules.specs.Update.Updates.{◌and_then◌}
use Rattle.paper_closure.specs.Passes.{passes}
use Rattle.paper_closure.proofs.PassesClosed.{passes_within, closed_already}
use Rattle.paper_closure.specs.Closure.{closure}
use Rattle.paper_entries.specs.Paper.Answers.{Answer}
use Rattle.paper_entries.specs.declared.Entered.{Entered}
use Rattle.paper_entries.specs.Paper.Enter.{refused, counted, concluded}

module _ (b : Board) (accepted : Answer) (raw : Option Board) where
  abbrev conclusion : Entered
  conclusion = concluded b accepted (raw and_then closure)

  -- the board shows it already
  pub shown_already : passes b ≡ true → raw ≡ some b → conclusion ≡ record { answer = accepted; board = b }
  unfolding ◌and_then◌
  shown_already p e = rw (e, closed_already b p)

  pub is_impossible : (raw and_then closure) ≡ none → conclusion ≡ refused Refused.Impossible (counted b)
  is_impossible e = rw e

  pub is_possible : (c : Board) → (raw and_then closure) ≡ some c → conclusion ≡ record { answer = accepted; board = c }
  is_possible c e = rw e

pub ruleset concluding = (shown_already, is_impossible, is_possible, passes_within)
