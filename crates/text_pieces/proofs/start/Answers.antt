-- `start` meets its contract.
use Rattle.paper_board.specs.Paper.Parts.{empty_books}
use Rattle.paper_rules.specs.Order.Empty.{within_empty_books}
use Rattle.paper_closure.proofs.PassesClosed.{empty_passes}
use Rattle.text_pieces.specs.LoadedAnswers.{overloaded_answers, loaded_answers}
use Rattle.text_pieces.proofs.start.Goals as goal

pub returns-then-text-gt-LOAD-clause-answers : goal.returns-then-text-gt-LOAD-clause-answers
returns-then-text-gt-LOAD-clause-answers c =
    overloaded_answers _ _ c.empty.ensures _ _ c.if-text-gt-LOAD.true c.clear.ensures.text c.put_refusal.ensures

pub next-requires-clause-passes : goal.next-requires-clause-passes
next-requires-clause-passes c = rw c.empty-2.ensures (empty_passes empty_books within_empty_books)

pub returns-clause-answers : goal.returns-clause-answers
returns-clause-answers c = loaded_answers _ _ c.empty-2.ensures _ _ c.if-text-gt-LOAD.false c.next.ensures.answers
