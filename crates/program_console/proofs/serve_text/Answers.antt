-- Whenever a piece is written, what the page holds is the next of the text.
use Rattle.std.proofs.Common.{rules, sym, ◌≡◌, ◌∙◌, eqb-true}
use Rattle.std.specs.Io.KnownBytes.{Appends}
use Rattle.text_decimals.specs.Written.{text_of, capacity_of}
use Rattle.program_console.specs.Buffered.{first_piece, next_piece, all_answered, all_written}
use Rattle.program_console.proofs.serve_text.Goals as goal

pub loop-page-init : goal.loop-page-init
loop-page-init g c =
    let all : capacity_of c.new-page.result ≡ 65536 = search rules in
    (c.start-piece.ensures.capacity ∙ all, first_piece _ c.start-piece.ensures.answers)

pub returns-then-is_empty-clause-whole : goal.returns-then-is_empty-clause-whole
returns-then-is_empty-clause-whole g c = all_answered c.loop-page.invariant.1 (eqb-true _ 0 (sym c.if-is_empty.ensures))

pub returns-then-is_empty-clause-written : goal.returns-then-is_empty-clause-written
returns-then-is_empty-clause-written g c =
    let wrote : Appends (g.W.Write.contents c.loop-page.writer) (g.W.Write.contents c.write_all.new.self) (text_of c.loop-page.page) = search rules in
    all_written _ c.loop-page.invariant.1 wrote (eqb-true _ 0 (sym c.if-is_empty.ensures))

pub loop-page-preserved : goal.loop-page-preserved
loop-page-preserved g c =
    let wrote : Appends (g.W.Write.contents c.loop-page.writer) (g.W.Write.contents c.write_all.new.self) (text_of c.loop-page.page) = search rules in
    (c.next-piece.ensures.capacity ∙ c.loop-page.invariant.0, next_piece _ c.loop-page.invariant.1 wrote c.next-piece.ensures.answers)
