-- 11 load, "the text is longer than 65536 bytes": the first piece of a text.
use Rattle.std.specs.Prelude.{◌≡◌, List, [], ℕ, ◌≤◌, ◌<◌, length}
use Rattle.std.proofs.Math.Path.{refl}
use Rattle.std.proofs.Common.{le_refl, arith, le-leb}
use Rattle.std.proofs.lemmas.Bool.{lt-leb}
use Rattle.std.proofs.Math.ListN.{drop_of_length-le}
use Rattle.text_decimals.specs.declared.Page.{Page}
use Rattle.text_decimals.specs.Written.{text_of, Written}
use Rattle.paper_board.specs.declared.Board.{Board}
use Rattle.paper_board.specs.declared.Refusal.TheVariants as Refused
use Rattle.paper_board.specs.Paper.Limits.{empty_board}
use Rattle.paper_board.specs.Paper.Parts.{empty_books}
use Rattle.paper_board.specs.Paper.Refusals.{number_of}
use Rattle.paper_rules.specs.Order.Empty.{within_empty_books}
use Rattle.paper_closure.proofs.PassesClosed.{empty_passes}
use Rattle.text_replies.specs.Paper.ReplyTexts.{refusal_text}
use Rattle.text_replies.specs.Room.{answer_room}
use Rattle.text_pieces.specs.declared.Piece.{Piece}
use Rattle.text_forms.specs.Paper.Lines.{lines_of}
use Rattle.text_answers.specs.Paper.Text.{overloaded, serve, load_limit, serve_text, output}
use Rattle.text_pieces.specs.Continues.{Continues, Answers}

module _ (t : List ℕ) (b : Board) (empty : b ≡ empty_board empty_books) where
  overloaded_continues : Continues overloaded (refusal_text (number_of Refused.Load)) b []
  unfolding lines_of serve output
  overloaded_continues = rw empty (record { output = refl; board = refl })

  -- "A text refused as 11 gives the line `(no 11)` and no other; none of its forms is carried out."
  pub overloaded_answers : (old new : Page) → load_limit < length t → text_of old ≡ []
      → Written old new (refusal_text (number_of Refused.Load)) answer_room
      → Answers (serve_text t) t (text_of new) (record { board = b; read = length t })
  unfolding serve_text
  overloaded_answers old new over cleared w =
      rw (lt-leb (length t) load_limit over)
      (record {
        continues = rw (w.text, cleared, drop_of_length-le t (le_refl (length t))) overloaded_continues;
        passes = rw empty (empty_passes empty_books within_empty_books);
        read = omega arith;
        progress = λ some. some;
      })

  pub loaded_answers : (out : List ℕ) (piece : Piece) → length t ≤ load_limit → Answers (serve b (lines_of t)) t out piece
      → Answers (serve_text t) t out piece
  unfolding serve_text
  loaded_answers out piece within = rw (le-leb (length t) load_limit within, ← empty) λ h. h
