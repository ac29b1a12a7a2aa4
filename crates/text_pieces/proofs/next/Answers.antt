-- `next` meets its contract: after each line, what was written and what remains give the whole.
use Rattle.std.proofs.Common.{length, sym, ◌∙◌, arith}
use Rattle.std.proofs.lemmas.Bool.{eqb-false}
use Rattle.text_forms.specs.LineLaws.{ends_at, no_end}
use Rattle.text_pieces.specs.PieceState.{piece_line, last}
use Rattle.text_pieces.proofs.next.Goals as goal

pub returns-in_default-clause-answers : goal.returns-in_default-clause-answers
returns-in_default-clause-answers c =
    let some = eqb-false (length c.loop-page.rest.now) 0 (sym c.loop-page-test.ensures) in
    last _ _ _ _ _ c.loop-page.invariant.2 _ (omega (arith, some)) (no_end _ (sym c.in_default.ensures)) c.put_refusal.ensures

pub loop-page-preserved : goal.loop-page-preserved
loop-page-preserved c =
    let left = c.loop-page.rest.now in
    let (is, less) = ends_at left c.in-Some.end (sym c.in-Some.ensures) in
    let written = rw (c.read.ensures, is) at c.carry_out-board.ensures.written in
    let board = rw (c.read.ensures, is) at c.carry_out-board.ensures.board_value in
    let state = piece_line _ _ c.loop-page.page _ _ c.loop-page.invariant.2 c.carry_out-board.new.page _ (omega (arith, is, less)) written board in
    (c.carry_out-board.ensures.written.capacity ∙ c.loop-page.invariant.0, c.carry_out-board.ensures.written.same_buffer ∙ c.loop-page.invariant.1, rw is state)
