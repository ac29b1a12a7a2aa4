-- A number without its sign: that of an i32, the least too, fits an i64 and an u64, and has at most ten digits.
use Rattle.std.specs.Prelude.{ℕ, ◌≤◌, T, ℤ, pos, negsuc, nat_abs, ◌-ℤ◌, length, true, false, ◌≡◌}
use Rattle.std.proofs.Common.{arith, ltb-true, ap, Fits, SFits, to_z, of_z}
use Rattle.std.specs.Int.Signed.{non_neg, lt_z}
use Rattle.std.specs.Int.{w32, w64}
use Rattle.std.proofs.lemmas.Int.{to_z-of_z}
use Rattle.text_decimals.specs.Decimal.{natural}
use Rattle.text_decimals.specs.Digits.{natural_length}

-- an i32 as it is read back from its bits
abbrev pub held : ℤ → ℤ
held z = to_z w32 (of_z w32 z)

magnitude_most : (z : ℤ) → SFits w32 z → nat_abs z ≤ 2147483648
magnitude_most (pos n) h = omega (arith, h.sfits)
magnitude_most (negsuc n) h = omega (arith, h.sfits)

pub magnitude_length : (z : ℤ) {m : ℕ} → SFits w32 z → m ≡ nat_abs (held z) → length (natural m) ≤ 10
magnitude_length z {m} h e =
    natural_length 10 m (omega arith) (omega (arith, simp (to_z-of_z, h) at e, magnitude_most z h))

pub widens : (z : ℤ) → SFits w32 z → SFits w64 z
widens (pos n) h = record { sfits = omega (arith, h.sfits) }
widens (negsuc n) h = record { sfits = omega (arith, h.sfits) }

pub unsigned : (z : ℤ) → SFits w32 z → lt_z z (pos 0) ≡ false → T (non_neg z) × Fits w64 (nat_abs z)
unsigned (pos n) h l = (tt, record { fits = omega (arith, h.sfits) })
unsigned (negsuc n) h l = let clash : ◌≡◌ {A = ℕ} 0 1 = cc in absurd (omega arith)

-- a negative number turned
pub turned : (z : ℤ) → lt_z z (pos 0) ≡ true → pos 0 -ℤ z ≡ pos (nat_abs z)
turned (pos n) l = absurd (omega (arith, ltb-true n 0 l))
turned (negsuc n) l = ap pos (omega arith)

pub turned_widens : (z : ℤ) → SFits w32 z → lt_z z (pos 0) ≡ true → SFits w64 (pos 0 -ℤ z)
turned_widens z h l = rw (turned z l) (record { sfits = omega (arith, magnitude_most z h) })

pub turned_unsigned : (z : ℤ) → SFits w32 z → lt_z z (pos 0) ≡ true → T (non_neg (pos 0 -ℤ z)) × Fits w64 (nat_abs (pos 0 -ℤ z))
turned_unsigned z h l = rw (turned z l) (tt, record { fits = omega (arith, magnitude_most z h) })
