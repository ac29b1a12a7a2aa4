-- What an attempt finds: the closure of the board that shows what is stated, or that there is none.
use Rattle.std.specs.Prelude.{◌≡◌}
use Rattle.std.proofs.Common.{◌∙◌}
use Rattle.std.proofs.Math.Option.{Option, none, some}
use Rattle.paper_board.specs.declared.Board.{Board}
use Rattle.paper_rules.specs.Update.Updates.{◌and_then◌}
use Rattle.paper_closure.specs.Closure.{closure}
use Rattle.call_statements.specs.declared.Stated.{Stated}
use Rattle.call_statements.specs.Stated.{raw_of}

-- a mark would have to change
pub none_stated : (o : Option Board) → o ≡ none → (o and_then closure) ≡ none
unfolding ◌and_then◌
none_stated o e = rw e

-- the closure of what is stated
pub then_closed : (o : Option Board) (c : Board) → o ≡ some c → (o and_then closure) ≡ closure c
unfolding ◌and_then◌
then_closed o c e = rw e

-- what the closure of the board that shows it comes to
pub attempted : (b c : Board) (s : Stated) → raw_of b s ≡ some c → (o : Option Board) → closure c ≡ o → (raw_of b s and_then closure) ≡ o
attempted b c s states o closes = then_closed (raw_of b s) c states ∙ closes

pub ruleset attempting = (none_stated, then_closed)
