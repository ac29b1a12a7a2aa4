-- "the text program never meets it": no answer to any text is the line `(no 0)`.
use Rattle.std.specs.Prelude.{◌≡◌, refl, List, [], ◌∷◌, ℕ, ◌<◌, get_or, drop}
use Rattle.std.proofs.Common.{sym, ap, ◌∙◌, append-nil, arith}
use Rattle.std.proofs.Math.Option.{some}
use Prim.Native.Char.{code}
use Rattle.text_decimals.specs.Bytes.{bytes}
use Rattle.text_decimals.specs.Decimal.{natural}
use Rattle.text_numerals.specs.DecimalLaws.{natural_digits, natural_value}
use Rattle.text_numerals.specs.Numerals.{digits, value}
use Rattle.text_formats.specs.Format.{filled}
use Rattle.paper_entries.specs.Paper.Replies.{ok_number, ok, no_number, shows_row, no_row, shows_pair, no_pair}
use Rattle.paper_plans.specs.Paper.PlanReply.{plan_found, plan_none, plan_spent, no_plan}
use Rattle.text_replies.specs.Paper.ReplyTexts.{refusal_text}
use Rattle.text_answers.specs.Paper.Text.{LineReply, to_entry, to_row, to_pair, to_plan, to_tally, reply_text, serve_text}
use Rattle.text_answers.specs.CarriedPasses.{refusal_in, NotZero, Every, text_never_zero}

-- a refusal's text tells its number
refusal_told : (n m : ℕ) → refusal_text n ≡ refusal_text m → n ≡ m
unfolding filled
refusal_told n m e =
    let told : (k : ℕ) → value (digits (drop 4 (refusal_text k))) ≡ k = λ k. ap value (natural_digits k (bytes ")\n") ∙ append-nil (natural k)) ∙ natural_value k in
    sym (told n) ∙ ap (λ t. value (digits (drop 4 t))) e ∙ told m

-- the second byte tells a refusal from another answer
other_text : (t : List ℕ) (c : ℕ) → get_or t 1 0 ≡ c → code "n" < c → t ≡ refusal_text 0 → ⊥
unfolding filled
other_text t c is above e =
    let same : c ≡ code "n" = sym is ∙ ap (λ l. get_or l 1 0) e in
    omega arith

zero_text : (r : LineReply) → reply_text r ≡ refusal_text 0 → refusal_in r ≡ some 0
unfolding filled refusal_in
zero_text (to_entry (ok_number k)) e = absurd (other_text _ (code "o") refl (omega arith) e)
zero_text (to_entry ok) e = absurd (other_text _ (code "o") refl (omega arith) e)
zero_text (to_entry (no_number n)) e = ap some (refusal_told n 0 e)
zero_text (to_row j (shows_row m d l b a)) e = absurd (other_text _ (code "r") refl (omega arith) e)
zero_text (to_row j (no_row n)) e = ap some (refusal_told n 0 e)
zero_text (to_pair (shows_pair a g)) e = absurd (other_text _ (code "t") refl (omega arith) e)
zero_text (to_pair (no_pair n)) e = ap some (refusal_told n 0 e)
zero_text (to_plan (plan_found t p)) e = absurd (other_text _ (code "p") refl (omega arith) e)
zero_text (to_plan (plan_none t)) e = absurd (other_text _ (code "p") refl (omega arith) e)
zero_text (to_plan (plan_spent t)) e = absurd (other_text _ (code "p") refl (omega arith) e)
zero_text (to_plan (no_plan n)) e = ap some (refusal_told n 0 e)
zero_text (to_tally n) e = absurd (other_text _ (code "t") refl (omega arith) e)

-- an answer that is another line than `(no 0)`
abbrev pub OtherLine : LineReply → Type 0
OtherLine r = reply_text r ≡ bytes "(no 0)\n" → ⊥

other_line : (r : LineReply) → NotZero r → OtherLine r
unfolding filled natural
other_line r h e = h (zero_text r e)

other_lines : (rs : List LineReply) → Every NotZero rs → Every OtherLine rs
other_lines [] h = tt
other_lines (r ∷ rs) (one, rest) = (other_line r one, other_lines rs rest)

pub never_refused_0 : (t : List ℕ) → Every OtherLine (serve_text t).replies
never_refused_0 t = other_lines (serve_text t).replies (text_never_zero t)
