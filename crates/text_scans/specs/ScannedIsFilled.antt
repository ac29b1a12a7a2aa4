-- A text is read by a format exactly where it is the format filled in with numbers of at most 7 digits.
use Rattle.std.specs.Prelude.{ℕ, ◌+◌, eqb, ℤ, length, drop, Bool, true, false, cond, not, ◌&&◌, List, [], ◌∷◌, ◌++◌, ◌≡◌, refl, Option, Some, None}
use Rattle.std.proofs.Common.{take-append-drop, sym, ap, ◌∙◌, arith, eqb-true, eq-eqb}
use Rattle.std.proofs.Math.Seq.{drop-append_seam}
use Rattle.std.proofs.Math.Bool.{and-eq-true_iff}
use Rattle.std.proofs.lemmas.Option.{none-some}
use Rattle.std.proofs.lemmas.Bool.{eqb-false, not-true}
use Rattle.text_decimals.specs.Bytes.{is_digit}
use Rattle.text_decimals.specs.Decimal.{decimal}
use Rattle.text_numerals.specs.DigitsRead.{starts_with_digit}
use Rattle.text_numerals.specs.NumberRead.{number_read, read_number}
use Rattle.text_numerals.specs.Numerals.{number_at, found, Short}
use Rattle.text_numerals.specs.declared.Numeral.{Numeral}
use Rattle.text_formats.specs.Format.{number_mark, natural_mark, filled, with_first, scan, marks}
use Rattle.text_scans.specs.Scan.{starts_with}
use Rattle.text_scans.specs.Steps.{scan_number, scan_no_number, scan_byte, filled_number, filled_byte}

-- may a number stand before this part of a format? Not before a digit or another number.
abbrev ends_number : List ℕ → Bool
ends_number [] = true
ends_number (c ∷ f) = not (is_digit c) && not (eqb c number_mark)

-- can the numbers be told in each text that is this format filled in? It has no mark for a natural number.
abbrev pub scannable : List ℕ → Bool
scannable [] = true
scannable (c ∷ f) = not (eqb c natural_mark) && cond (eqb c number_mark) (ends_number f) true && scannable f

abbrev pub AllShort : List ℤ → Type 0
AllShort [] = Unit
AllShort (z ∷ zs) = Short z × AllShort zs

pub record Fills (f t : List ℕ) (zs : List ℤ) : Type 0 where
  pub text : t ≡ filled f [] zs
  pub short : AllShort zs
  pub each : length zs ≡ marks number_mark f

pub record Scannable (c : ℕ) (f : List ℕ) : Type 0 where
  pub signed : eqb c natural_mark ≡ false
  pub ends : cond (eqb c number_mark) (ends_number f) true ≡ true
  pub rest : scannable f ≡ true

pub scannable_parts : (c : ℕ) (f : List ℕ) → scannable (c ∷ f) ≡ true → Scannable c f
scannable_parts c f e =
    let (first, rest) = (and-eq-true_iff (not (eqb c natural_mark) && cond (eqb c number_mark) (ends_number f) true) (scannable f)).0 e in
    let (signed, ends) = (and-eq-true_iff (not (eqb c natural_mark)) (cond (eqb c number_mark) (ends_number f) true)).0 first in
    record { signed = not-true (eqb c natural_mark) signed; ends = ends; rest = rest }

ends_digits : (f : List ℕ) (zs : List ℤ) → scannable f ≡ true → ends_number f ≡ true → starts_with_digit (filled f [] zs) ≡ false
unfolding filled
ends_digits [] zs s e = refl
ends_digits (c ∷ f) zs s e =
    let (digit, mark) = (and-eq-true_iff (not (is_digit c)) (not (eqb c number_mark))).0 e in
    rw ((scannable_parts c f s).signed, not-true (eqb c number_mark) mark) (not-true (is_digit c) digit)

-- a text that is a format filled in, read by any format with the same first mark, or by one that has no mark there either
module _ (c : ℕ) (f : List ℕ) (s : Scannable c f) (g : List ℕ) where
  pub mark_scanned : eqb c number_mark ≡ true → (z : ℤ) (zs : List ℤ) → Short z
      → scan (c ∷ g) (filled (c ∷ f) [] (z ∷ zs)) ≡ with_first z (scan g (filled f [] zs))
  mark_scanned m z zs short =
      let t = filled f [] zs in
      let read = number_read z t short (ends_digits f zs s.rest (rw m at s.ends)) in
      rw (filled_number c f (z ∷ zs) s.signed m)
      (scan_number (c ∷ g) (decimal z ++ t) (length (decimal z)) z (omega arith) (eqb-true c number_mark m) read ∙ rw (drop-append_seam (decimal z) t))

  pub byte_scanned : eqb c number_mark ≡ false → (d : ℕ) → eqb d number_mark ≡ false → (zs : List ℤ)
      → scan (d ∷ g) (filled (c ∷ f) [] zs) ≡ cond (eqb c d) (scan g (filled f [] zs)) None
  byte_scanned m d n zs =
      rw (filled_byte c f zs s.signed m) (scan_byte (d ∷ g) (c ∷ filled f [] zs) (omega arith) (eqb-false d number_mark n))

-- a text that is the format filled in is read
pub filled_is_scanned : (f : List ℕ) (zs : List ℤ) → scannable f ≡ true → AllShort zs → length zs ≡ marks number_mark f → scan f (filled f [] zs) ≡ Some zs
unfolding filled scan
filled_is_scanned [] [] s short each = refl
filled_is_scanned [] (z ∷ zs) s short each = absurd (omega arith)
filled_is_scanned (c ∷ f) zs s short each =
    let parts = scannable_parts c f s in
    go parts (λ ys. filled_is_scanned f ys parts.rest) (eqb c number_mark) refl zs short each
  where
    go : Scannable c f → ((ys : List ℤ) → AllShort ys → length ys ≡ marks number_mark f → scan f (filled f [] ys) ≡ Some ys)
        → (b : Bool) → eqb c number_mark ≡ b → (ys : List ℤ) → AllShort ys → length ys ≡ cond b 1 0 + marks number_mark f
        → scan (c ∷ f) (filled (c ∷ f) [] ys) ≡ Some ys
    go parts rest true m [] short each = absurd (omega arith)
    go parts rest true m (y ∷ ys) short each = mark_scanned c f parts f m y ys short.0 ∙ rw (rest ys short.1 (omega arith))
    go parts rest false m ys short each = byte_scanned c f parts f m c m ys ∙ rw (eq-eqb c c refl, rest ys short (omega arith))

mark_filled : (c : ℕ) (f t : List ℕ) (k : ℕ) (z : ℤ) (zs : List ℤ) → Scannable c f → eqb c number_mark ≡ true → number_at t ≡ found k z
    → ((ys : List ℤ) → scan f (drop k t) ≡ Some ys → Fills f (drop k t) ys)
    → (o : Option (List ℤ)) → scan f (drop k t) ≡ o → with_first z o ≡ Some zs → Fills (c ∷ f) t zs
mark_filled c f t k z zs s m e rest None q all = absurd (none-some zs all)
mark_filled c f t k z zs s m e rest (Some ys) q all =
    let r = rest ys q in
    let read = read_number t k z e in
    let same : zs ≡ z ∷ ys = cc in
    rw same
    (record {
      text = sym (take-append-drop k t) ∙ rw (read.written, filled_number c f (z ∷ ys) s.signed m) (ap (λ l. decimal z ++ l) r.text);
      short = (read.short, r.short);
      each = rw m (omega (arith, r.each));
    })

byte_filled : (c : ℕ) (f t : List ℕ) (zs : List ℤ) → Scannable c f → eqb c number_mark ≡ false
    → (cond (starts_with c t) (scan f (drop 1 t)) None ≡ Some zs) → (scan f (drop 1 t) ≡ Some zs → Fills f (drop 1 t) zs) → Fills (c ∷ f) t zs
byte_filled c f [] zs s m e rest = absurd (none-some zs e)
byte_filled c f (x ∷ t) zs s m e rest = go (eqb x c) refl e
  where
    go : (b : Bool) → eqb x c ≡ b → cond b (scan f t) None ≡ Some zs → Fills (c ∷ f) (x ∷ t) zs
    go true same e =
        let r = rest e in
        record {
          text = rw (eqb-true x c same, filled_byte c f zs s.signed m) (ap (λ l. c ∷ l) r.text);
          short = r.short;
          each = rw m (omega (arith, r.each));
        }
    go false same e = absurd (none-some zs e)

-- a text that is read is the format filled in
pub scanned_is_filled : (f t : List ℕ) (zs : List ℤ) → scannable f ≡ true → scan f t ≡ Some zs → Fills f t zs
unfolding filled scan
scanned_is_filled [] [] zs s e = let none_left : zs ≡ [] = cc in rw none_left (record { text = refl; short = tt; each = refl })
scanned_is_filled [] (x ∷ t) zs s e = absurd (none-some zs e)
scanned_is_filled (c ∷ f) t zs s e =
    let parts = scannable_parts c f s in
    go parts (λ u ys. scanned_is_filled f u ys parts.rest) (eqb c number_mark) refl (number_at t) refl
  where
    go : Scannable c f → ((u : List ℕ) (ys : List ℤ) → scan f u ≡ Some ys → Fills f u ys)
        → (b : Bool) → eqb c number_mark ≡ b → (o : Option Numeral) → number_at t ≡ o → Fills (c ∷ f) t zs
    go parts rest true m (Some n) e' =
        mark_filled c f t n.length n.value zs parts m e' (rest (drop n.length t)) (scan f (drop n.length t)) refl
        (sym (scan_number (c ∷ f) t n.length n.value (omega arith) (eqb-true c number_mark m) e') ∙ e)
    go parts rest true m None e' = absurd (none-some zs (sym (scan_no_number (c ∷ f) t (omega arith) (eqb-true c number_mark m) e') ∙ e))
    go parts rest false m o n =
        byte_filled c f t zs parts m (sym (scan_byte (c ∷ f) t (omega arith) (eqb-false c number_mark m)) ∙ e) (rest (drop 1 t) zs)
