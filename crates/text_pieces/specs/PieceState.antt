-- What the loop over the lines of a text keeps.
use Rattle.std.specs.Prelude.{◌≡◌, refl, true, List, [], ◌∷◌, ℕ, ◌+◌, ◌-◌, ◌≤◌, ◌<◌, length, take, drop}
use Rattle.std.proofs.Common.{ap, subst, ◌∙◌, le_refl, add-one, arith, drop_of_length-le, drop-drop}
use Rattle.std.proofs.Math.Nat.{sub_self}
use Rattle.std.proofs.Math.Decide.{ℕ_discrete}
use Rattle.text_decimals.specs.Rest.{rest, rest_drop, rest_length}
use Rattle.text_decimals.specs.declared.Page.{Page}
use Rattle.text_decimals.specs.Written.{text_of, Written}
use Rattle.paper_board.specs.declared.Board.{Board}
use Rattle.paper_board.specs.declared.Refusal.TheVariants as Refused
use Rattle.paper_board.specs.Paper.Refusals.{number_of}
use Rattle.paper_closure.specs.Passes.{passes}
use Rattle.text_forms.specs.Paper.Forms.{form_of}
use Rattle.text_replies.specs.Paper.ReplyTexts.{refusal_text}
use Rattle.text_replies.specs.Room.{answer_room}
use Rattle.text_forms.specs.Paper.Lines.{lines_of}
use Rattle.text_answers.specs.Paper.Text.{Served, reply_text, carried_out, serve}
use Rattle.text_answers.specs.CarriedPasses.{carried_passes}
use Rattle.text_forms.specs.LineLaws.{line_length}
use Rattle.text_pieces.specs.Continues.{Continues, continues_start, continues_then, continues_line, continues_last, Answers}

-- so much of the answer is written, and `left` is what remains of the text
pub record PieceState (s : Served) (text out : List ℕ) (b : Board) (left : List ℕ) : Type 0 where
  pub continues : Continues s out b left
  pub passes : passes b ≡ true
  pub suffix : left ≡ drop (length text - length left) text
  pub within : length left ≤ length text
  -- nothing is written before a line is read
  pub unread : length left ≡ length text → out ≡ []

module _ (s : Served) (text : List ℕ) (page : Page) (b : Board) (left : List ℕ) (h : PieceState s text (text_of page) b left) where
  -- a line carried out
  pub piece_line : (page' : Page) (b' : Board) → line_length left < length left
      → Written page page' (reply_text (carried_out b (form_of (take (line_length left) left))).reply) answer_room
      → b' ≡ (carried_out b (form_of (take (line_length left) left))).board
      → PieceState s text (text_of page') b' (rest left (line_length left + 1))
  piece_line page' b' more w is =
      let k = line_length left + 1 in
      let shorter = rest_length left k in
      let passed : length text - length left + k ≡ length text - length (rest left k) = omega (arith, shorter, h.within) in
      record {
        continues = rw (w.text, is, rest_drop left k, add-one) (continues_then s _ b left _ _ _ h.continues (continues_line b left more));
        passes = rw is (carried_passes b _ h.passes);
        suffix =
            rest_drop left k ∙ ap (drop k) h.suffix ∙ drop-drop k (length text - length left) text
            ∙ ap (λ m. drop m text) passed;
        within = omega (arith, shorter, h.within);
        unread = λ e. absurd (omega (arith, shorter, h.within));
      }

  -- the last line has no line feed
  pub last : (page' : Page) → 0 < length left → line_length left ≡ length left
      → Written page page' (refusal_text (number_of Refused.Form)) answer_room
      → Answers s text (text_of page') (record { board = b; read = length text })
  last page' some all w =
      record {
        continues = rw (w.text, drop_of_length-le text (le_refl (length text))) (continues_then s _ b left _ b [] h.continues (continues_last b left some all));
        passes = h.passes;
        read = omega arith;
        progress = λ some. some;
      }

-- ---- where the loop begins, and where it ends

pub piece_start : (b : Board) (text : List ℕ) → passes b ≡ true → PieceState (serve b (lines_of text)) text [] b text
piece_start b text p =
    record {
      continues = continues_start b text;
      passes = p;
      suffix = rw (sub_self (length text));
      within = omega arith;
      unread = λ e. refl;
    }

is_empty : (l : List ℕ) → length l ≡ 0 → l ≡ []
is_empty [] e = refl
is_empty (x ∷ l) e = absurd (omega arith)

module _ (s : Served) (text out : List ℕ) (b : Board) (left : List ℕ) (h : PieceState s text out b left) where
  all_read : drop (length text) text ≡ []
  all_read = drop_of_length-le text (le_refl (length text))

  -- no room for a further answer, of a capacity that has room for one
  pub full : (capacity : ℕ) → capacity - length out < answer_room → answer_room ≤ capacity
      → Answers s text out (record { board = b; read = length text - length left })
  full capacity low room =
      record {
        continues = subst (Continues s out b) h.suffix h.continues;
        passes = h.passes;
        read = omega arith;
        progress = λ some. go (ℕ_discrete (length left) (length text));
      }
    where
      go : Dec (length left ≡ length text) → 0 < length text - length left
      go (yes e) = absurd (omega (arith, ap length (h.unread e)))
      go (no ne) = omega (arith, ne, h.within)

  -- nothing remains
  pub done : length left ≡ 0 → Answers s text out (record { board = b; read = length text })
  done none =
      record {
        continues = rw (all_read, ← is_empty left none) h.continues;
        passes = h.passes;
        read = omega arith;
        progress = λ some. some;
      }
