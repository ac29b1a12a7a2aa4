-- The board after a text is the board after the entry calls of its lines: so demand 3 speaks of every text.
use Rattle.std.specs.Prelude.{◌≡◌, refl, Bool, true, false, cond, Option, Some, None, List, [], ◌∷◌, ◌++◌, ℕ, leb, length}
use Rattle.std.proofs.Common.{◌∙◌}
use Rattle.paper_board.specs.declared.Board.{Board}
use Rattle.paper_board.specs.Paper.Limits.{empty_board}
use Rattle.paper_board.specs.Paper.Parts.{empty_books}
use Rattle.paper_entries.specs.Paper.Entry.{Entry}
use Rattle.paper_entries.specs.Paper.EntryOf.{entry_of}
use Rattle.paper_entries.specs.Paper.Sequence.{byValue, Call, after}
use Rattle.text_forms.specs.declared.Form.{Form}
use Rattle.text_forms.specs.declared.Form.TheVariants.{Entry as Enters, Row, Pair, Plan, Tally}
use Rattle.text_forms.specs.Paper.Forms.{form_of}
use Rattle.text_forms.specs.Paper.Lines.{Line, ended, unended, lines_of}
use Rattle.text_answers.specs.Paper.Text.{carried_out, serve, load_limit, serve_text}

abbrev called : Entry → List Call
called e = record { manner = byValue; entry = e } ∷ []

-- the call that a form makes, if it makes an entry
abbrev pub call_of : Option Form → List Call
call_of (Some (Enters e)) = called (entry_of e)
call_of (Some (Row j)) = []
call_of (Some (Pair x y)) = []
call_of (Some (Plan n)) = []
call_of (Some Tally) = []
call_of None = []

abbrev pub calls_of : List Line → List Call
calls_of [] = []
calls_of (ended l ∷ ls) = call_of (form_of l) ++ calls_of ls
calls_of (unended l ∷ ls) = calls_of ls

carried_after : (b : Board) (f : Option Form) (cs : List Call) → after (carried_out b f).board cs ≡ after b (call_of f ++ cs)
unfolding carried_out after
carried_after b (Some (Enters e)) cs = refl
carried_after b (Some (Row j)) cs = refl
carried_after b (Some (Pair x y)) cs = refl
carried_after b (Some (Plan n)) cs = refl
carried_after b (Some Tally) cs = refl
carried_after b None cs = refl

serve_after : (b : Board) (ls : List Line) → (serve b ls).board ≡ after b (calls_of ls)
unfolding serve after
serve_after b [] = refl
serve_after b (ended l ∷ ls) = serve_after (carried_out b (form_of l)).board ls ∙ carried_after b (form_of l) (calls_of ls)
serve_after b (unended l ∷ ls) = serve_after b ls

-- the calls of a text: none where it is too long
abbrev pub text_calls : List ℕ → List Call
text_calls t = cond (leb (length t) load_limit) (calls_of (lines_of t)) []

pub text_after : (t : List ℕ) → (serve_text t).board ≡ after (empty_board empty_books) (text_calls t)
unfolding serve_text after
text_after t = go (leb (length t) load_limit) refl
  where
    go : (x : Bool) → leb (length t) load_limit ≡ x
        → (serve_text t).board ≡ after (empty_board empty_books) (cond (leb (length t) load_limit) (calls_of (lines_of t)) [])
    go true e = rw e (serve_after (empty_board empty_books) (lines_of t))
    go false e = rw e
