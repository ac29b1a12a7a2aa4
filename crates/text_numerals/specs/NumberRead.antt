-- Numerals exactly: a number that is written is read back, and what is read as a number is just what is written of it.
use Rattle.std.specs.Prelude.{ℕ, zero, suc, ◌≤◌, ◌<◌, eqb, ℤ, pos, negsuc, neg_ℤ, nat_abs, length, take, Bool, true, false, cond, Option, Some, None, List, [], ◌∷◌, ◌++◌, ◌≡◌, refl}
use Rattle.std.proofs.Math.Dec.{eqb-suc-zero}
use Rattle.std.proofs.Common.{append-nil, sym, ap, ◌∙◌, arith, eqb-true, ne_eqb}
use Rattle.text_decimals.specs.Bytes.{minus}
use Rattle.text_decimals.specs.Decimal.{natural, decimal}
use Rattle.text_numerals.specs.DecimalLaws.{natural_digits, natural_value, natural_leads, written_is_natural, natural_is_written}
use Rattle.text_decimals.specs.Bytes.{is_digit}
use Rattle.text_numerals.specs.Prefix.{prefix_within}
use Rattle.text_numerals.specs.DigitsRead.{starts_with_digit, no_digits, digits_are_first, digit_at}
use Rattle.text_numerals.specs.NaturalRead.{natural_short, found_same, NaturalRead, natural_found}
use Rattle.text_numerals.specs.Numerals.{digits, natural_at, negative, number_at, found, Short}
use Rattle.text_numerals.specs.declared.Numeral.{Numeral}

natural_then : (n : ℕ) (t : List ℕ) → starts_with_digit t ≡ false → digits (natural n ++ t) ≡ natural n
natural_then n t e = natural_digits n t ∙ ap (λ l. natural n ++ l) (no_digits t e) ∙ append-nil (natural n)

natural_read : (n : ℕ) (t : List ℕ) → n < 10000000 → starts_with_digit t ≡ false → natural_at (natural n ++ t) ≡ found (length (natural n)) (pos n)
unfolding natural_at
natural_read n t h e = rw (natural_then n t e, written_is_natural n h, natural_value n)

-- a text that starts with a digit starts with no minus
unsigned : (t : List ℕ) → 0 < length (digits t) → number_at t ≡ natural_at t
unfolding number_at
unsigned [] h = absurd (omega arith)
unsigned (c ∷ t) h = let d = digit_at (c ∷ t) 0 h in rw (ne_eqb c minus (λ q. omega (arith, d.low, q)))

-- a number that is written is read back, where no digit comes after it
pub number_read : (z : ℤ) (t : List ℕ) → Short z → starts_with_digit t ≡ false → number_at (decimal z ++ t) ≡ found (length (decimal z)) z
unfolding number_at
number_read (pos n) t h e = unsigned (natural n ++ t) (rw (natural_then n t e) (natural_leads n).0) ∙ natural_read n t h e
number_read (negsuc n) t h e = rw (natural_read (suc n) t h e, eqb-suc-zero n)

-- k bytes of the text are what is written of a short number
pub record ReadsNumber (t : List ℕ) (k : ℕ) (z : ℤ) : Type 0 where
  pub within : k ≤ length t
  pub written : take k t ≡ decimal z
  pub short : Short z

from_natural : (t : List ℕ) (k : ℕ) (z : ℤ) → NaturalRead t k z → ReadsNumber t k z
from_natural t k z r =
    record {
      within = omega (arith, prefix_within is_digit t, r.all);
      written = rw (r.all, r.same) (digits_are_first t ∙ sym (natural_is_written t r.is));
      short = rw r.same (natural_short t r.is);
    }

-- a minus before a number that is none, a positive one, or none of those that are read
from_negative : (t : List ℕ) (k : ℕ) (z : ℤ) (n : Option Numeral) → natural_at t ≡ n → negative n ≡ found k z → ReadsNumber (minus ∷ t) k z
from_negative t k z None e q = cc
from_negative t k z (Some n) e q = go n.value (natural_found t n.length n.value e) q
  where
    go : (y : ℤ) → NaturalRead t n.length y → cond (eqb (nat_abs y) 0) None (found (suc n.length) (neg_ℤ y)) ≡ found k z → ReadsNumber (minus ∷ t) k z
    go (pos zero) h q = cc
    go (pos (suc m)) h q =
        let r = from_natural t n.length (pos (suc m)) h in
        let read = rw (eqb-suc-zero m) at q in
        let (longer, less) = found_same read in
        record { within = omega (arith, r.within, longer); written = rw (← longer, ← less) (ap (λ l. minus ∷ l) r.written); short = rw (← less) r.short }
    go (negsuc m) h q =
        let clash : ◌≡◌ {A = ℕ} 0 1 = cc h.same in
        absurd (omega arith)

-- what is read as a number is what is written of it
pub read_number : (t : List ℕ) (k : ℕ) (z : ℤ) → number_at t ≡ found k z → ReadsNumber t k z
unfolding number_at
read_number [] k z e = cc
read_number (c ∷ t) k z e = go (eqb c minus) refl e
  where
    go : (b : Bool) → eqb c minus ≡ b → cond b (negative (natural_at t)) (natural_at (c ∷ t)) ≡ found k z → ReadsNumber (c ∷ t) k z
    go true is e = rw (eqb-true c minus is) (from_negative t k z (natural_at t) refl e)
    go false is e = from_natural (c ∷ t) k z (natural_found (c ∷ t) k z e)
