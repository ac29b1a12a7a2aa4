-- The first line of a text, and the lines after it.
use Rattle.std.specs.Prelude.{◌≡◌, refl, Bool, true, false, not, cond, Option, Some, None, List, [], ◌∷◌, ℕ, suc, ◌<◌, eqb, ltb, length, take, drop, position}
use Rattle.std.proofs.lemmas.Option.{cond_some, none-some}
use Rattle.std.proofs.Common.{sym, ap, ◌∙◌, arith, ltb-true, ltb-false}
use Rattle.text_numerals.specs.Prefix.{prefix, prefix_length, prefix_within}
use Rattle.std.specs.List.{prefix_len}
use Rattle.text_forms.specs.Paper.Lines.{line_feed, ended, unended, with_byte, lines_of}

-- a byte of a line
abbrev pub in_line : ℕ → Bool
in_line c = not (eqb c line_feed)

-- how many bytes stand before the first line feed, or in the whole text where there is none
abbrev pub line_length : List ℕ → ℕ
line_length t = length (prefix in_line t)

-- how many bytes stand before the first line feed, if there is one
abbrev pub line_end : List ℕ → Option ℕ
line_end t = position (λ c. eqb c line_feed) t

module _ (t : List ℕ) where
  line_counted : prefix_len in_line t ≡ line_length t
  line_counted = prefix_length in_line t

  pub ends_at : (n : ℕ) → line_end t ≡ Some n → (n ≡ line_length t) × (n < length t)
  ends_at n e =
      let (less, same) = cond_some (ltb (prefix_len in_line t) (length t)) _ n e in
      let is : n ≡ line_length t = sym same ∙ line_counted in
      (is, omega (arith, ltb-true _ _ less, line_counted, is))

  pub no_end : line_end t ≡ None → line_length t ≡ length t
  no_end e = go (ltb (prefix_len in_line t) (length t)) refl e
    where
      go : (b : Bool) → ltb (prefix_len in_line t) (length t) ≡ b → cond b (Some (prefix_len in_line t)) None ≡ None → line_length t ≡ length t
      go true l e = absurd (none-some _ (sym e))
      go false l e = omega (arith, ltb-false _ _ l, line_counted, prefix_within in_line t)

pub no_lines : (t : List ℕ) → length t ≡ 0 → lines_of t ≡ []
unfolding lines_of
no_lines [] e = refl
no_lines (c ∷ t) e = absurd (omega arith)

-- the text that a byte more makes, where the law holds of the rest
module _ (c : ℕ) (t : List ℕ) where
  ended_step : (line_length t < length t → lines_of t ≡ ended (take (line_length t) t) ∷ lines_of (drop (suc (line_length t)) t))
      → (e : Bool) → eqb c line_feed ≡ e → line_length (c ∷ t) < length (c ∷ t)
      → lines_of (c ∷ t) ≡ ended (take (line_length (c ∷ t)) (c ∷ t)) ∷ lines_of (drop (suc (line_length (c ∷ t))) (c ∷ t))
  unfolding lines_of
  ended_step rest true e h = rw (e, lines_of)
  ended_step rest false e h = rw (e, lines_of) (ap (with_byte c) (rest (omega (arith, rw e at h))))

  unended_step : (line_length t ≡ length t → lines_of (c ∷ t) ≡ with_byte c (lines_of t) → lines_of (c ∷ t) ≡ unended (c ∷ t) ∷ [])
      → (e : Bool) → eqb c line_feed ≡ e → line_length (c ∷ t) ≡ length (c ∷ t) → lines_of (c ∷ t) ≡ unended (c ∷ t) ∷ []
  unfolding lines_of
  unended_step rest true e h = absurd (omega (arith, rw e at h))
  unended_step rest false e h = rest (omega (arith, rw e at h)) (rw (e, lines_of))

-- a line that has its line feed
pub lines_ended : (t : List ℕ) → line_length t < length t
    → lines_of t ≡ ended (take (line_length t) t) ∷ lines_of (drop (suc (line_length t)) t)
lines_ended [] h = absurd (omega arith)
lines_ended (c ∷ t) h = ended_step c t (lines_ended t) (eqb c line_feed) refl h

-- a last line without its line feed
pub lines_unended : (c : ℕ) (t : List ℕ) → line_length (c ∷ t) ≡ length (c ∷ t) → lines_of (c ∷ t) ≡ unended (c ∷ t) ∷ []
unfolding lines_of
lines_unended c [] h = unended_step c [] (λ l e. e) (eqb c line_feed) refl h
lines_unended c (d ∷ t) h = unended_step c (d ∷ t) (λ l e. e ∙ ap (with_byte c) (lines_unended d t l)) (eqb c line_feed) refl h
