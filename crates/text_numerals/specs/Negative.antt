-- A minus before a natural number that is read, as the code puts it in 32 bits.
use Rattle.std.specs.Prelude.{ℕ, zero, suc, ◌+◌, ◌≤◌, ◌<◌, ℤ, pos, negsuc, neg_ℤ, nat_abs, ◌-ℤ◌, None, List, ◌≡◌}
use Rattle.std.proofs.Math.IntN.{+ℤ_idl}
use Rattle.std.proofs.Common.{◌∙◌, add-one, arith, SFits, to_z, of_z, eq-eqb, ne_eqb}
use Rattle.std.specs.Int.{w32}
use Rattle.std.proofs.lemmas.Int.{to_z-of_z}
use Rattle.text_numerals.specs.NaturalRead.{natural_parts, natural_short, short_fits, NaturalRead}
use Rattle.text_numerals.specs.Numerals.{digits, value, found, negative}

negated_fits : (n : ℕ) → n < 10000000 → SFits w32 (neg_ℤ (pos n))
negated_fits zero h = short_fits (pos 0) h
negated_fits (suc n) h = short_fits (negsuc n) h

module _ (t : List ℕ) (k : ℕ) (z : ℤ) (r : NaturalRead t k z) where
  pub few_bytes : k ≤ 7
  few_bytes = omega (arith, r.all, (natural_parts (digits t) r.is).few)

  fits : SFits w32 z
  fits = rw r.same (short_fits (pos (value (digits t))) (natural_short t r.is))

  difference : pos 0 -ℤ to_z w32 (of_z w32 z) ≡ neg_ℤ z
  difference = rw (to_z-of_z w32 z fits) (+ℤ_idl (neg_ℤ z))

  opposite_fits : SFits w32 (neg_ℤ z)
  opposite_fits = rw r.same (negated_fits (value (digits t)) (natural_short t r.is))

  pub difference_fits : SFits w32 (pos 0 -ℤ to_z w32 (of_z w32 z))
  difference_fits = rw difference opposite_fits

  bits : of_z w32 z ≡ nat_abs z
  bits = rw r.same

  pub zero_is_none : of_z w32 z ≡ 0 → None ≡ negative (found k z)
  zero_is_none h = rw (eq-eqb (nat_abs z) 0 (rw bits at h))

  pub other_is_negative : (of_z w32 z ≡ 0 → ⊥) → found (k + 1) (to_z w32 (of_z w32 (pos 0 -ℤ to_z w32 (of_z w32 z)))) ≡ negative (found k z)
  other_is_negative h = rw (difference, to_z-of_z w32 (neg_ℤ z) opposite_fits, ne_eqb (nat_abs z) 0 (λ q. h (bits ∙ q)), add-one k)
