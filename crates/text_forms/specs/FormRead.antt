-- What the code makes of the first format that a line is written by is the form that the line is.
use Rattle.std.specs.Prelude.{ℕ, zero, suc, ◌≤◌, leb, ℤ, pos, length, get_or, take, true, cond, is_some, Option, Some, None, List, [], ◌∷◌, ◌++◌, ◌≡◌, refl}
use Rattle.std.proofs.lemmas.Option.{none-some}
use Rattle.std.proofs.Common.{ap, sym, arith, leb-true}
use Rattle.std.specs.Int.{w32}
use Rattle.std.proofs.lemmas.Int.{to_z-of_z}
use Rattle.text_decimals.specs.Magnitude.{held}
use Rattle.text_numerals.specs.NaturalRead.{short_fits}
use Rattle.text_scans.specs.ScannedIsFilled.{scannable, AllShort, scanned_is_filled}
use Rattle.text_formats.specs.Format.{number_mark, scan, marks}
use Rattle.text_scans.specs.Scan.{placed, scanned}
use Rattle.text_forms.specs.declared.Form.{Form}
use Rattle.text_forms.specs.Paper.Forms.{FormShape, shapes, first_of}

-- numbers of at most 7 digits in as many places or more, and the 0 beyond them, are what the code holds
held_placed : (n : ℕ) (zs : List ℤ) → AllShort zs → length zs ≤ n → (k : ℕ) → held (get_or (placed n zs) k (pos 0)) ≡ get_or zs k (pos 0)
held_placed zero [] short few k = refl
held_placed zero (z ∷ zs) short few k = absurd (omega arith)
held_placed (suc n) [] short few zero = refl
held_placed (suc n) [] short few (suc k) = held_placed n [] tt (omega arith) k
held_placed (suc n) (z ∷ zs) short few zero = to_z-of_z w32 z (short_fits z short.0)
held_placed (suc n) (z ∷ zs) short few (suc k) = held_placed n zs short.1 (omega arith) k

-- what a shape says with numbers as the code holds them
abbrev pub made : FormShape → List ℤ → Form
made s ns = s.form (λ k. held (get_or ns k (pos 0)))

-- the entries come first
abbrev pub entry_shapes : List FormShape
entry_shapes = take 4 shapes

module _ (us : List FormShape) (line : List ℕ) where
  join : (ss : List FormShape) → first_of (ss ++ us) line ≡ cond (is_some (first_of ss line)) (first_of ss line) (first_of us line)
  unfolding first_of
  join [] = refl
  join (s ∷ ss) = go (join ss) (scan s.format line) refl
    where
      go : first_of (ss ++ us) line ≡ cond (is_some (first_of ss line)) (first_of ss line) (first_of us line) → (o : Option (List ℤ)) → scan s.format line ≡ o
          → first_of (s ∷ ss ++ us) line ≡ cond (is_some (first_of (s ∷ ss) line)) (first_of (s ∷ ss) line) (first_of us line)
      go rest None e = rw (e, first_of) rest
      go rest (Some zs) e = rw (e, first_of)

  module _ (ss : List FormShape) where
    -- a line that is written by one of the first shapes, and one that is written by none of them
    pub found_first : {f : Form} → Some f ≡ first_of ss line → Some f ≡ first_of (ss ++ us) line
    found_first e = rw (join ss, ← e)

    pub none_first : {f : Option Form} → None ≡ first_of ss line → f ≡ first_of us line → f ≡ first_of (ss ++ us) line
    none_first e later = rw (join ss, ← e) later

pub none_left : (line : List ℕ) → None ≡ first_of [] line
unfolding first_of
none_left line = refl

module _ (s : FormShape) (ss : List FormShape) (line : List ℕ) where
  -- a line that is not written by the first shape
  pub passed : {f : Option Form} (n : ℕ) → None ≡ scanned n (scan s.format line) → f ≡ first_of ss line → f ≡ first_of (s ∷ ss) line
  unfolding first_of
  passed {f} n unread later = go (scan s.format line) refl unread
    where
      go : (o : Option (List ℤ)) → scan s.format line ≡ o → None ≡ scanned n o → f ≡ first_of (s ∷ ss) line
      go None e h = rw (e, first_of) later
      go (Some zs) e h = absurd (none-some _ h)

  -- and one that is
  pub taken : (n : ℕ) {ns : List ℤ} → scannable s.format ≡ true → leb (marks number_mark s.format) n ≡ true
      → Some ns ≡ scanned n (scan s.format line) → Some (made s ns) ≡ first_of (s ∷ ss) line
  unfolding first_of
  taken n {ns} plain few read = go (scan s.format line) refl read
    where
      go : (o : Option (List ℤ)) → scan s.format line ≡ o → Some ns ≡ scanned n o → Some (made s ns) ≡ first_of (s ∷ ss) line
      go None e h = absurd (none-some _ (sym h))
      go (Some zs) e h =
          let r = scanned_is_filled s.format line zs plain e in
          let all : ns ≡ placed n zs = cc in
          let holds = held_placed n zs r.short (omega (arith, r.each, leb-true (marks number_mark s.format) n few)) in
          rw (e, first_of, all) (ap (λ f. Some (s.form f)) λ i k. holds k i)
