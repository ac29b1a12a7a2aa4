-- What the loop over the pieces of a text keeps: the piece in the buffer is the last of those given so far, and those before it are written.
use Rattle.std.specs.Prelude.{◌≡◌, List, [], ◌∷◌, ◌++◌, ℕ, length, Option}
use Rattle.std.specs.Io.KnownBytes.{Appends}
use Rattle.std.proofs.Common.{arith, ap, ◌∙◌, sym, append_assoc, subst}
use Rattle.std.proofs.Math.Path.{subst⁻¹}
use Rattle.std.proofs.KnownBytes.{Appends-nil, Appends-trans}
use mathlib.Core.List.{append-nil}
use Rattle.text_decimals.specs.Rest.{rest, rest_drop}
use Rattle.paper_board.specs.declared.Board.{Board}
use Rattle.text_pieces.specs.declared.Piece.{Piece}
use Rattle.text_pieces.specs.Pieces.{Pieces, joined, first, further, Whole, pieces_whole}
use Rattle.text_forms.specs.Paper.Lines.{lines_of}
use Rattle.text_answers.specs.Paper.Text.{serve, serve_text, output}
use Rattle.text_pieces.specs.Continues.{Continues, continues_then, Answers}

-- the buffer holds the piece w of a text, the pieces before it were appended to a writer, and board b and the text t remain
pub record Buffered (text w : List ℕ) (b : Board) (t : List ℕ) (old new : Option (List ℕ)) : Type 0 where
  pub before : List (List ℕ)
  pub given : Pieces text (before ++ (w ∷ [])) b t
  pub written : Appends old new (joined before)

pub first_piece : {text out : List ℕ} {piece : Piece} (old : Option (List ℕ)) → Answers (serve_text text) text out piece
    → Buffered text out piece.board (rest text piece.read) old old
first_piece old h = record { before = []; given = rw rest_drop (first h); written = Appends-nil old }

joined_more : (ws : List (List ℕ)) (w : List ℕ) → joined (ws ++ (w ∷ [])) ≡ joined ws ++ w
joined_more [] w = append-nil w
joined_more (v ∷ ws) w = ap (λ x. v ++ x) (joined_more ws w) ∙ sym (append_assoc v (joined ws) w)

-- the piece in the buffer, too
joined_written : {text w : List ℕ} {b : Board} {t : List ℕ} {old new : Option (List ℕ)} (so : Buffered text w b t old new) (now : Option (List ℕ))
    → Appends new now w → Appends old now (joined (so.before ++ (w ∷ [])))
joined_written {w = w} {old = old} {new = new} so now h =
    subst⁻¹ (Appends old now) (joined_more so.before w) (Appends-trans old new now (joined so.before) w so.written h)

pub next_piece : {text w : List ℕ} {b : Board} {t out : List ℕ} {piece : Piece} {old new : Option (List ℕ)} (now : Option (List ℕ))
    → Buffered text w b t old new → Appends new now w → Answers (serve b (lines_of t)) t out piece
    → Buffered text out piece.board (rest t piece.read) old now
next_piece {w = w} now so wrote h =
    record { before = so.before ++ (w ∷ []); given = rw rest_drop (further so.given h); written = joined_written so now wrote }

pub all_answered : {text w : List ℕ} {b : Board} {t : List ℕ} {old new : Option (List ℕ)} → Buffered text w b t old new → length t ≡ 0 → Whole text b
all_answered {t = []} so none = pieces_whole so.given
all_answered {t = c ∷ t} so none = absurd (omega arith)

pieces_continue : {text : List ℕ} {ws : List (List ℕ)} {b : Board} {t : List ℕ} → Pieces text ws b t → Continues (serve_text text) (joined ws) b t
pieces_continue (first h) = rw append-nil h.continues
pieces_continue (further given h) = rw joined_more (continues_then _ _ _ _ _ _ _ (pieces_continue given) h.continues)

pieces_output : {text : List ℕ} {ws : List (List ℕ)} {b : Board} → Pieces text ws b [] → joined ws ≡ output (serve_text text).replies
unfolding lines_of serve output
pieces_output {ws = ws} given = sym ((pieces_continue given).output ∙ append-nil (joined ws))

pub all_written : {text w : List ℕ} {b : Board} {t : List ℕ} {old new : Option (List ℕ)} (now : Option (List ℕ))
    → Buffered text w b t old new → Appends new now w → length t ≡ 0 → Appends old now (output (serve_text text).replies)
all_written {t = []} {old = old} now so wrote none = subst (Appends old now) (pieces_output so.given) (joined_written so now wrote)
all_written {t = c ∷ t} now so wrote none = absurd (omega arith)
