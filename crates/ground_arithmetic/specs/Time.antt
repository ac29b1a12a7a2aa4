-- When a time, the sum of two or their difference fits an i32, and the greater and the lesser of two times.
use Rattle.std.specs.Prelude.{◌≡◌, false, cond, ℤ, pos, negsuc, neg_ℤ, ◌+ℤ◌, ◌-ℤ◌, ◌≤ℤ◌}
use Rattle.std.specs.Int.Signed.{lt_z}
use Rattle.std.specs.Int.{w32}
use Rattle.std.proofs.Common.{SFits}
use Rattle.ground_arithmetic.specs.Bools.{by_test}
use Rattle.ground_arithmetic.specs.Linear.{whole, plus, minus}

pub fits : (z : ℤ) → negsuc 2147483647 ≤ℤ z → z ≤ℤ pos 2147483647 → SFits w32 z
fits (pos n) h l = record { sfits = omega whole }
fits (negsuc n) h l = record { sfits = omega whole }

-- at most a thousand million from 0, which is far beyond a board's times with all its lengths added
abbrev pub Moderate : ℤ → Type 0
Moderate z = (negsuc 999999999 ≤ℤ z) × (z ≤ℤ pos 1000000000)

pub sum_fits : (a b : ℤ) → Moderate a → Moderate b → SFits w32 (a +ℤ b)
sum_fits a b h l = fits (a +ℤ b) (omega (whole, plus a b)) (omega (whole, plus a b))

pub gap_fits : (e d : ℤ) → Moderate e → Moderate d → SFits w32 (e -ℤ d)
gap_fits e d h l = fits (e -ℤ d) (omega (whole, plus e (neg_ℤ d), minus d)) (omega (whole, plus e (neg_ℤ d), minus d))

abbrev pub greater : ℤ → ℤ → ℤ
greater a b = cond (lt_z a b) b a

abbrev pub lesser : ℤ → ℤ → ℤ
lesser a b = cond (lt_z a b) a b

pub greater_left : (a b : ℤ) → a ≤ℤ greater a b
greater_left a b = by_test (λ x. a ≤ℤ x) (lt_z a b) b a (λ e. omega whole) (λ e. omega whole)

pub greater_right : (a b : ℤ) → b ≤ℤ greater a b
greater_right a b = by_test (λ x. b ≤ℤ x) (lt_z a b) b a (λ e. omega whole) (λ e. omega whole)

pub greater_first : (a b : ℤ) → b ≤ℤ a → greater a b ≡ a
greater_first a b l = let e : lt_z a b ≡ false = omega whole in rw e

pub lesser_left : (a b : ℤ) → lesser a b ≤ℤ a
lesser_left a b = by_test (λ x. x ≤ℤ a) (lt_z a b) a b (λ e. omega whole) (λ e. omega whole)

pub lesser_right : (a b : ℤ) → lesser a b ≤ℤ b
lesser_right a b = by_test (λ x. x ≤ℤ b) (lt_z a b) a b (λ e. omega whole) (λ e. omega whole)
