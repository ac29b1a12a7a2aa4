-- A number as it is written: its only digit, or those of its tenth and then its last; with a minus before them or none.
use Prim.Native.Char.{code}
use Rattle.std.specs.Prelude.{ℕ, ◌+◌, ◌/◌, ◌%◌, ◌≤◌, ◌<◌, ℤ, pos, negsuc, nat_abs, length, true, false, List, [], ◌∷◌, ◌≡◌, refl}
use Rattle.std.proofs.Common.{arith, ltb-true, length-append, SFits}
use Rattle.std.specs.Int.Signed.{lt_z}
use Rattle.std.specs.Int.{w32}
use Rattle.std.proofs.lemmas.Int.{to_z-of_z}
use Rattle.text_decimals.specs.declared.Page.{Page}
use Rattle.text_decimals.specs.Bytes.{minus}
use Rattle.text_decimals.specs.Decimal.{natural, decimal}
use Rattle.text_decimals.specs.Digits.{natural_small, natural_more}
use Rattle.text_decimals.specs.Magnitude.{held, magnitude_length}
use Rattle.text_decimals.specs.Written.{Written, nothing_written, append_written, weaken_written}

number_positive : (z : ℤ) → lt_z z (pos 0) ≡ false → decimal z ≡ natural (nat_abs z)
number_positive (pos n) l = refl
number_positive (negsuc n) l = cc

number_negative : (z : ℤ) → lt_z z (pos 0) ≡ true → decimal z ≡ minus ∷ natural (nat_abs z)
number_negative (pos n) l = absurd (omega (arith, ltb-true n 0 l))
number_negative (negsuc n) l = refl

-- what stands before the digits
abbrev pub sign : ℤ → List ℕ
sign (pos n) = []
sign (negsuc n) = minus ∷ []

-- exactly the digits of n
abbrev pub DigitsWritten : Page → Page → ℕ → Type 0
DigitsWritten old new n = Written old new (natural n) (length (natural n))

module _ {o p : Page} where
  pub only_digit : (n : ℕ) {d : ℕ} → n < 10 → d ≡ code "0" + n → Written o p (d ∷ []) 1 → DigitsWritten o p n
  only_digit n h e w = rw natural_small (rw e at w)

  pub last_digit : (n : ℕ) {d : ℕ} {q : Page} → 10 ≤ n → d ≡ code "0" + n % 10
      → DigitsWritten o p (n / 10) → Written p q (d ∷ []) 1 → DigitsWritten o q n
  last_digit n h e tenth w = rw (natural_more n h, length-append) (append_written tenth (rw e at w) (omega arith))

-- the sign of a number, and then its digits
module _ (z : ℤ) (h : SFits w32 z) where
  pub no_sign : (o : Page) → lt_z (held z) (pos 0) ≡ false → Written o o (sign z) 1
  no_sign o l = go z (simp (to_z-of_z, h) at l)
    where
      go : (z : ℤ) → lt_z z (pos 0) ≡ false → Written o o (sign z) 1
      go (pos n) l = weaken_written (nothing_written o) (omega arith)
      go (negsuc n) l = cc

  pub minus_sign : {o p : Page} → lt_z (held z) (pos 0) ≡ true → Written o p (minus ∷ []) 1 → Written o p (sign z) 1
  minus_sign {o} {p} l w = go z (simp (to_z-of_z, h) at l)
    where
      go : (z : ℤ) → lt_z z (pos 0) ≡ true → Written o p (sign z) 1
      go (pos n) l = absurd (omega (arith, ltb-true n 0 l))
      go (negsuc n) l = w

  pub signed_written : {o p q : Page} {m : ℕ} → m ≡ nat_abs (held z) → Written o p (sign z) 1 → DigitsWritten p q m → Written o q (decimal z) 11
  signed_written {o} {p} {q} {m} e signed w =
      let is = simp (to_z-of_z, h) at e in
      let few = magnitude_length z h e in
      go z (rw is at few) signed (rw is at w)
    where
      go : (z : ℤ) → length (natural (nat_abs z)) ≤ 10 → Written o p (sign z) 1 → DigitsWritten p q (nat_abs z) → Written o q (decimal z) 11
      go (pos n) few signed w = append_written signed w (omega arith)
      go (negsuc n) few signed w = append_written signed w (omega arith)
