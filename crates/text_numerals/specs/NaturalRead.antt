-- What it means that a natural number is read: "1 to 7 decimal digits, no leading zero".
use Prim.Native.Char.{code}
use Rattle.std.specs.Prelude.{ℕ, ◌≤◌, ◌<◌, eqb, leb, ℤ, pos, negsuc, length, get_or, Bool, true, false, cond, not, ◌&&◌, ◌||◌, None, List, ◌≡◌, refl}
use Rattle.std.proofs.Math.Seq.{take-length}
use Rattle.std.proofs.Math.Bool.{and-eq-true_iff}
use Rattle.std.proofs.Common.{arith, SFits, leb-true, ap, sym}
use Rattle.std.specs.Int.{w32}
use Rattle.text_numerals.specs.Numerals.{digits, value, is_natural, natural_at, found, Short}
use Rattle.text_numerals.specs.Value.{value_short}
use Rattle.text_numerals.specs.declared.Numeral.{Numeral}

pub record NaturalParts (ds : List ℕ) : Type 0 where
  pub some : 1 ≤ length ds
  pub few : length ds ≤ 7
  pub leads : (eqb (length ds) 1 || not (eqb (get_or ds 0 0) (code "0"))) ≡ true

pub natural_parts : (ds : List ℕ) → is_natural ds ≡ true → NaturalParts ds
natural_parts ds is =
    let (counts, leads) = (and-eq-true_iff (leb 1 (length ds) && leb (length ds) 7) (eqb (length ds) 1 || not (eqb (get_or ds 0 0) (code "0")))).0 is in
    let (some, few) = (and-eq-true_iff (leb 1 (length ds)) (leb (length ds) 7)).0 counts in
    record { some = leb-true 1 (length ds) some; few = leb-true (length ds) 7 few; leads = leads }

pub natural_short : (t : List ℕ) → is_natural (digits t) ≡ true → value (digits t) < 10000000
natural_short t is = rw (take-length (digits t)) at (value_short t (length (digits t)) (omega arith) (natural_parts (digits t) is).few)

-- a short number is one of 32 bits
pub short_fits : (z : ℤ) → Short z → SFits w32 z
short_fits (pos n) h = record { sfits = omega arith }
short_fits (negsuc n) h = record { sfits = omega arith }

pub nothing_is_no_number : (k : ℕ) (z : ℤ) → None ≡ found k z → ⊥
nothing_is_no_number k z e = cc

pub found_same : {j k : ℕ} {y z : ℤ} → found j y ≡ found k z → (j ≡ k) × (y ≡ z)
found_same {j} {k} {y} {z} e =
    let m : Numeral = record { length = j; value = y } in
    let n : Numeral = record { length = k; value = z } in
    let same : m ≡ n = cc in
    (ap (λ n. n.length) same, ap (λ n. n.value) same)

pub record NaturalRead (t : List ℕ) (k : ℕ) (z : ℤ) : Type 0 where
  pub is : is_natural (digits t) ≡ true
  pub all : k ≡ length (digits t)
  pub same : z ≡ pos (value (digits t))

pub natural_found : (t : List ℕ) (k : ℕ) (z : ℤ) → natural_at t ≡ found k z → NaturalRead t k z
unfolding natural_at
natural_found t k z e = go (is_natural (digits t)) refl e
  where
    go : (b : Bool) → is_natural (digits t) ≡ b → cond b (found (length (digits t)) (pos (value (digits t)))) None ≡ found k z → NaturalRead t k z
    go true is e = let (all, same) = found_same e in record { is = is; all = sym all; same = sym same }
    go false is e = cc
