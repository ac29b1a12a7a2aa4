-- A text answered piece by piece: what is written so far, and the board and the text that remain, give the same as the whole.
use Rattle.std.specs.Prelude.{◌≡◌, refl, List, [], ◌∷◌, ◌++◌, true, ℕ, suc, ◌≤◌, ◌<◌, length, take, drop}
use Rattle.std.proofs.Common.{sym, ap, ◌∙◌, append_assoc, arith}
use Rattle.paper_board.specs.declared.Board.{Board}
use Rattle.paper_board.specs.declared.Refusal.TheVariants as Refused
use Rattle.paper_board.specs.Paper.Refusals.{number_of}
use Rattle.paper_closure.specs.Passes.{passes}
use Rattle.text_forms.specs.Paper.Forms.{form_of}
use Rattle.text_replies.specs.Paper.ReplyTexts.{refusal_text}
use Rattle.text_pieces.specs.declared.Piece.{Piece}
use Rattle.text_forms.specs.Paper.Lines.{Line, lines_of}
use Rattle.text_answers.specs.Paper.Text.{Served, reply_text, carried_out, answered, serve, output}
use Rattle.text_forms.specs.LineLaws.{line_length, lines_ended, lines_unended}

-- s gives the bytes w, and then what the text t gives from board b
pub record Continues (s : Served) (w : List ℕ) (b : Board) (t : List ℕ) : Type 0 where
  pub output : output s.replies ≡ w ++ output (serve b (lines_of t)).replies
  pub board : s.board ≡ (serve b (lines_of t)).board

pub continues_start : (b : Board) (t : List ℕ) → Continues (serve b (lines_of t)) [] b t
continues_start b t = record { output = refl; board = refl }

pub continues_then : (s : Served) (w : List ℕ) (b : Board) (t v : List ℕ) (c : Board) (u : List ℕ) → Continues s w b t
    → Continues (serve b (lines_of t)) v c u → Continues s (w ++ v) c u
continues_then s w b t v c u h k =
    record {
      output = h.output ∙ ap (λ x. w ++ x) k.output ∙ sym (append_assoc w v (output (serve c (lines_of u)).replies));
      board = h.board ∙ k.board;
    }

one_line : (b : Board) (l : Line) (ls : List Line) → (output (serve b (l ∷ ls)).replies
    ≡ reply_text (answered b l).reply ++ output (serve (answered b l).board ls).replies) × ((serve b (l ∷ ls)).board ≡ (serve (answered b l).board ls).board)
unfolding serve output
one_line b l ls = (refl, refl)

-- a line that has its line feed is carried out
pub continues_line : (b : Board) (t : List ℕ) → line_length t < length t
    → Continues
    (serve b (lines_of t))
    (reply_text (carried_out b (form_of (take (line_length t) t))).reply)
    (carried_out b (form_of (take (line_length t) t))).board
    (drop (suc (line_length t)) t)
continues_line b t h = rw (lines_ended t h) (record { output = (one_line b _ _).0; board = (one_line b _ _).1 })

-- "a last line without its line feed, gets 10"
pub continues_last : (b : Board) (t : List ℕ) → 0 < length t → line_length t ≡ length t
    → Continues (serve b (lines_of t)) (refusal_text (number_of Refused.Form)) b []
unfolding lines_of
continues_last b [] h e = absurd (omega arith)
continues_last b (c ∷ t) h e = rw (lines_unended c t e) (record { output = (one_line b _ _).0; board = (one_line b _ _).1 })

-- how far a text was answered: the bytes written are the first of what s gives, and the rest follows from the board and the text
-- that remain
pub record Answers (s : Served) (t out : List ℕ) (piece : Piece) : Type 0 where
  pub continues : Continues s (out) piece.board (drop piece.read t)
  pub passes : passes piece.board ≡ true
  pub read : piece.read ≤ length t
  -- so that the whole text is answered in the end
  pub progress : 0 < length t → 0 < piece.read
