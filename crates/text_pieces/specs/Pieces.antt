-- The pieces of a text in order: joined, they are the whole output, and the last leaves the board after the whole text.
use Rattle.std.specs.Prelude.{◌≡◌, true, ℕ, drop}
use Rattle.std.proofs.Math.Path.{sym}
use Rattle.std.proofs.Common.{ap, ◌∙◌}
use mathlib.Core.List.{List, [], ◌∷◌, ◌++◌, append-nil, append_assoc}
use Rattle.paper_board.specs.declared.Board.{Board}
use Rattle.paper_closure.specs.Passes.{passes}
use Rattle.text_pieces.specs.declared.Piece.{Piece}
use Rattle.text_forms.specs.Paper.Lines.{lines_of}
use Rattle.text_answers.specs.Paper.Text.{serve, serve_text, output}
use Rattle.text_pieces.specs.Continues.{Continues, continues_then, Answers}

-- the pieces ws of a text, which leave board b and the text t: the first as `text_pieces::start` promises, each further one as
-- `text_pieces::next` does on the board and the text that remain
pub data Pieces (text : List ℕ) : List (List ℕ) → Board → List ℕ → Type 0 where
  first : {out : List ℕ} {piece : Piece} → Answers (serve_text text) text out piece
      → Pieces text (out ∷ []) piece.board (drop piece.read text)
  further : {ws : List (List ℕ)} {b : Board} {t out : List ℕ} {piece : Piece} → Pieces text ws b t → Answers (serve b (lines_of t)) t out piece
      → Pieces text (ws ++ (out ∷ [])) piece.board (drop piece.read t)

abbrev pub joined : List (List ℕ) → List ℕ
joined [] = []
joined (w ∷ ws) = w ++ joined ws

-- the pieces are the whole output of the definition, and b is its board
pub record Whole (text : List ℕ) (b : Board) : Type 0 where
  pub pieces : List (List ℕ)
  pub given : Pieces text pieces b []
  pub output : joined pieces ≡ output (serve_text text).replies
  pub board : b ≡ (serve_text text).board

joined_further : (ws : List (List ℕ)) (w : List ℕ) → joined (ws ++ (w ∷ [])) ≡ joined ws ++ w
joined_further [] w = append-nil w
joined_further (v ∷ ws) w = ap (λ x. v ++ x) (joined_further ws w) ∙ sym (append_assoc v (joined ws) w)

module _ {text : List ℕ} where
  pub pieces_pass : {ws : List (List ℕ)} {b : Board} {t : List ℕ} → Pieces text ws b t → passes b ≡ true
  pieces_pass (first h) = h.passes
  pieces_pass (further given h) = h.passes

  pieces_continue : {ws : List (List ℕ)} {b : Board} {t : List ℕ} → Pieces text ws b t → Continues (serve_text text) (joined ws) b t
  pieces_continue (first h) = rw append-nil h.continues
  pieces_continue (further given h) = rw joined_further (continues_then _ _ _ _ _ _ _ (pieces_continue given) h.continues)

  -- pieces of which nothing remains
  pub pieces_whole : {ws : List (List ℕ)} {b : Board} → Pieces text ws b [] → Whole text b
  unfolding lines_of serve output
  pieces_whole {ws = ws} given =
      let all = pieces_continue given in
      record { pieces = ws; given = given; output = sym (all.output ∙ append-nil (joined ws)); board = sym all.board }
