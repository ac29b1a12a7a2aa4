-- A number that is not negative, as a cast to an unsigned type reads it.
use Rattle.std.specs.Prelude.{◌≡◌, refl, ℕ, ◌≤◌, ◌<◌, ◌^◌, T, ltb, ℤ, pos, negsuc, nat_abs, ◌≤ℤ◌}
use Rattle.std.proofs.Common.{arith}
use Rattle.std.specs.Int.Signed.{mag, non_neg, lt_z}
use Rattle.std.specs.Int.{Width}
use mir.Val.{Fits, bits}
use Rattle.paper_entries.specs.Paper.Entry.{number}

pub number_mag : (z : ℤ) → number z ≤ mag z
number_mag (pos n) = omega arith
number_mag (negsuc n) = omega arith

pub cast_fits : (w : Width) (z : ℤ) → pos 0 ≤ℤ z → number z < 2 ^ bits w → T (non_neg z) × Fits w (nat_abs z)
cast_fits w (pos n) h l = (tt, record { fits = l })
cast_fits w (negsuc n) h l = absurd h.le

pub cast_number : (z : ℤ) → pos 0 ≤ℤ z → nat_abs z ≡ number z
cast_number (pos n) h = refl
cast_number (negsuc n) h = absurd h.le

pub less_number : (z : ℤ) (n : ℕ) → pos 0 ≤ℤ z → lt_z z (pos n) ≡ ltb (number z) n
less_number (pos k) n h = refl
less_number (negsuc k) n h = absurd h.le
