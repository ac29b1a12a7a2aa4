-- "Single spaces, no other blanks": a line that is a form is just the text of that form, and that text is that form. So each form has one text and
-- each line is at most one form.
use Rattle.std.specs.Prelude.{ℕ, zero, suc, ◌+◌, ◌<◌, ℤ, pos, length, get_or, drop, true, Option, Some, None, List, [], ◌∷◌, ◌≡◌, refl}
use Rattle.std.proofs.Common.{drop_of_length-le, drop-cons, sym, ap, ◌∙◌, arith}
use Rattle.std.proofs.lemmas.Option.{none-some}
use Rattle.text_scans.specs.ScannedIsFilled.{scannable, AllShort, scanned_is_filled}
use Rattle.text_formats.specs.Format.{number_mark, filled, scan, marks}
use Rattle.paper_entries.specs.declared.Entry.TheVariants.{Addition, Arc, Mark, Cut}
use Rattle.text_forms.specs.declared.Form.{Form}
use Rattle.text_forms.specs.declared.Form.TheVariants.{Entry, Row, Pair, Plan, Tally}
use Rattle.text_forms.specs.Paper.Forms.{FormShape, written, shapes, said, first_of, form_of}
use Rattle.text_forms.specs.Shapes.{distinct, distinct_parts, filled_is_said, empty_is_none}

-- a format of the list, counted from 0, and numbers to fill it in with
pub record Filling : Type 0 where
  pub index : ℕ
  pub numbers : List ℤ

abbrev filling : ℕ → List ℤ → Filling
filling k zs = record { index = k; numbers = zs }

-- the format that a form is written by, and its numbers in turn
abbrev pub filling_of : Form → Filling
filling_of (Entry (Addition l e d m)) = filling 0 (l ∷ e ∷ d ∷ m ∷ [])
filling_of (Entry (Arc a b)) = filling 1 (a ∷ b ∷ [])
filling_of (Entry (Mark j m)) = filling 2 (j ∷ m ∷ [])
filling_of (Entry (Cut j e d)) = filling 3 (j ∷ e ∷ d ∷ [])
filling_of (Row j) = filling 4 (j ∷ [])
filling_of (Pair a b) = filling 5 (a ∷ b ∷ [])
filling_of (Plan n) = filling 6 (n ∷ [])
filling_of Tally = filling 7 []

-- beyond the list, where no form is
abbrev beyond : FormShape
beyond = written "" (λ n. Tally)

abbrev shape_of : Form → FormShape
shape_of f = get_or shapes (filling_of f).index beyond

abbrev numbers_of : Form → List ℤ
numbers_of f = (filling_of f).numbers

-- how a form is written
abbrev pub form_text : Form → List ℕ
form_text f = filled (shape_of f).format [] (numbers_of f)

-- n numbers from the k-th on
abbrev numbers_from : ℕ → ℕ → List ℤ → List ℤ
numbers_from k zero zs = []
numbers_from k (suc n) zs = get_or zs k (pos 0) ∷ numbers_from (suc k) n zs

all_from : (k n : ℕ) (zs : List ℤ) → length zs ≡ k + n → numbers_from k n zs ≡ drop k zs
all_from k zero zs h = sym (drop_of_length-le zs {i = k} (omega arith))
all_from k (suc n) zs h = ap (λ l. get_or zs k (pos 0) ∷ l) (all_from (suc k) n zs (omega arith)) ∙ sym (drop-cons zs k (pos 0) (omega arith))

-- what a shape says tells the shape, and its numbers in turn
record Told (s : FormShape) : Type 0 where
  shape : (zs : List ℤ) → shape_of (said s zs) ≡ s
  numbers : (zs : List ℤ) → numbers_of (said s zs) ≡ numbers_from 0 (marks number_mark s.format) zs

abbrev AllTold : List FormShape → Type 0
AllTold [] = Unit
AllTold (s ∷ ss) = Told s × AllTold ss

shapes_told : AllTold shapes
shapes_told = search depth 30

abbrev IsText : List ℕ → Form → Type 0
IsText line f = (line ≡ form_text f) × AllShort (numbers_of f)

first_is_written : (ss : List FormShape) → AllTold ss → distinct ss ≡ true → (line : List ℕ) (f : Form) → first_of ss line ≡ Some f → IsText line f
unfolding first_of
first_is_written [] told h line f e = absurd (none-some f e)
first_is_written (s ∷ ss) told h line f e =
    let parts = distinct_parts s ss h in
    go parts.plain (first_is_written ss told.1 parts.rest line f) (scan s.format line) refl
  where
    go : scannable s.format ≡ true → (first_of ss line ≡ Some f → IsText line f) → (o : Option (List ℤ)) → scan s.format line ≡ o → IsText line f
    go plain rest None q = rest (rw (q, first_of) at e)
    go plain rest (Some zs) q =
        let r = scanned_is_filled s.format line zs plain q in
        let same = told.0.numbers zs ∙ all_from 0 (marks number_mark s.format) zs (omega (arith, r.each)) in
        let found = rw (q, first_of) at e in
        let says : said s zs ≡ f = cc in
        rw (← says, told.0.shape zs, same) (r.text, r.short)

-- a line that is a form is its text
pub read_is_written : (line : List ℕ) (f : Form) → form_of line ≡ Some f → (line ≡ form_text f) × AllShort (numbers_of f)
read_is_written line f e = first_is_written shapes shapes_told refl line f e

-- a form has as many numbers as its format has marks, and is what its shape says with them
record Given (f : Form) : Type 0 where
  within : (filling_of f).index < length shapes
  each : length (numbers_of f) ≡ marks number_mark (shape_of f).format
  says : said (shape_of f) (numbers_of f) ≡ f

given : (f : Form) → Given f
given (Entry (Addition l e d m)) = search arith
given (Entry (Arc a b)) = search arith
given (Entry (Mark j m)) = search arith
given (Entry (Cut j e d)) = search arith
given (Row j) = search arith
given (Pair a b) = search arith
given (Plan n) = search arith
given Tally = search arith

-- the text of a form is that form
pub written_is_read : (f : Form) → AllShort (numbers_of f) → form_of (form_text f) ≡ Some f
written_is_read f short =
    let g = given f in
    filled_is_said beyond shapes refl (filling_of f).index g.within (numbers_of f) short g.each ∙ ap Some g.says

-- each form has its own text
pub one_text : (f g : Form) → AllShort (numbers_of f) → AllShort (numbers_of g) → form_text f ≡ form_text g → f ≡ g
one_text f g hf hg e = let same : Some f ≡ Some g = sym (written_is_read f hf) ∙ ap form_of e ∙ written_is_read g hg in cc

-- and the empty line is none
pub empty_is_no_form : form_of [] ≡ None
empty_is_no_form = empty_is_none shapes refl

pub no_empty_text : (f : Form) → AllShort (numbers_of f) → form_text f ≡ [] → ⊥
no_empty_text f hf e = none-some f (sym empty_is_no_form ∙ sym (ap form_of e) ∙ written_is_read f hf)
