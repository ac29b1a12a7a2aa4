-- "one bracket form a line": the forms of the text, and the form that a line is.
use Rattle.std.specs.Prelude.{ℕ, ℤ, pos, get_or, Option, Some, None, List, [], ◌∷◌}
use Prim.Native.String.{String}
use Rattle.text_decimals.specs.Bytes.{bytes}
use Rattle.text_formats.specs.Format.{scan}
use Rattle.paper_entries.specs.declared.Entry.TheVariants.{Addition, Arc, Mark, Cut}
use Rattle.text_forms.specs.declared.Form.{Form}
use Rattle.text_forms.specs.declared.Form.TheVariants.{Entry, Row, Pair, Plan, Tally}

-- how a form is written, `#` for a number, and what it says with its numbers: `n 0` is the first
pub record FormShape : Type 0 where
  pub format : List ℕ
  pub form : (ℕ → ℤ) → Form

abbrev pub written : String → ((ℕ → ℤ) → Form) → FormShape
written s f = record { format = bytes s; form = f }

abbrev pub shapes : List FormShape
shapes =
    written "(add (len #) (win # #) (mark #))" (λ n. Entry (Addition (n 0) (n 1) (n 2) (n 3)))
    ∷ written "(arc # #)" (λ n. Entry (Arc (n 0) (n 1)))
    ∷ written "(mark # #)" (λ n. Entry (Mark (n 0) (n 1)))
    ∷ written "(cut # (win # #))" (λ n. Entry (Cut (n 0) (n 1) (n 2)))
    ∷ written "(row #)" (λ n. Row (n 0))
    ∷ written "(two # #)" (λ n. Pair (n 0) (n 1))
    ∷ written "(plan #)" (λ n. Plan (n 0))
    ∷ written "(tally)" (λ n. Tally)
    ∷ []

-- what a shape says with these numbers
abbrev pub said : FormShape → List ℤ → Form
said s zs = s.form (λ k. get_or zs k (pos 0))

-- the first of the forms that a line is written as, if any
unfoldable pub first_of : List FormShape → List ℕ → Option Form
first_of [] line = None
first_of (s ∷ ss) line = elim (scan s.format line) [ None ↦ first_of ss line | Some zs ↦ Some (said s zs) ]

abbrev pub form_of : List ℕ → Option Form
form_of line = first_of shapes line
