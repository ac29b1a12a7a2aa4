-- One byte of a format: what it does to a text that is read by the format, and to the text that it makes.
use Rattle.std.specs.Prelude.{ℕ, ◌<◌, eqb, ℤ, pos, length, get_or, drop, Bool, true, false, cond, List, [], ◌∷◌, ◌++◌, ◌≡◌, refl, None}
use Rattle.std.proofs.Common.{arith, eq-eqb, ne_eqb}
use Rattle.text_decimals.specs.Decimal.{decimal}
use Rattle.text_numerals.specs.Numerals.{number_at, found}
use Rattle.text_formats.specs.Format.{number_mark, natural_mark, filled, scan, with_first}
use Rattle.text_scans.specs.Scan.{starts_with}

pub scan_number : (f t : List ℕ) (k : ℕ) (z : ℤ) → 0 < length f → get_or f 0 0 ≡ number_mark → number_at t ≡ found k z → scan f t ≡ with_first z (scan (drop 1 f) (drop k t))
unfolding scan
scan_number [] t k z more m e = absurd (omega arith)
scan_number (c ∷ f) t k z more m e = rw (eq-eqb c number_mark m, e)

pub scan_no_number : (f t : List ℕ) → 0 < length f → get_or f 0 0 ≡ number_mark → number_at t ≡ None → scan f t ≡ None
unfolding scan
scan_no_number [] t more m e = absurd (omega arith)
scan_no_number (c ∷ f) t more m e = rw (eq-eqb c number_mark m, e)

pub scan_byte : (f t : List ℕ) → 0 < length f → (get_or f 0 0 ≡ number_mark → ⊥) → scan f t ≡ cond (starts_with (get_or f 0 0) t) (scan (drop 1 f) (drop 1 t)) None
unfolding scan
scan_byte [] t more m = absurd (omega arith)
scan_byte (c ∷ f) [] more m = rw (ne_eqb c number_mark m)
scan_byte (c ∷ f) (x ∷ t) more m = rw (ne_eqb c number_mark m)

pub scan_nothing : (c : ℕ) (f : List ℕ) → scan (c ∷ f) [] ≡ None
unfolding scan number_at
scan_nothing c f = go (eqb c number_mark) refl
  where
    go : (b : Bool) → eqb c number_mark ≡ b → scan (c ∷ f) [] ≡ None
    go true m = rw m
    go false m = rw m

pub filled_number : (c : ℕ) (f : List ℕ) (zs : List ℤ) → eqb c natural_mark ≡ false → eqb c number_mark ≡ true
    → filled (c ∷ f) [] zs ≡ decimal (get_or zs 0 (pos 0)) ++ filled f [] (drop 1 zs)
unfolding filled
filled_number c f zs n m = rw (n, m)

pub filled_byte : (c : ℕ) (f : List ℕ) (zs : List ℤ) → eqb c natural_mark ≡ false → eqb c number_mark ≡ false → filled (c ∷ f) [] zs ≡ c ∷ filled f [] zs
unfolding filled
filled_byte c f zs n m = rw (n, m)
