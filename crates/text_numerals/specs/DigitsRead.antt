-- The digits at the start of a text, one at a time.
use Prim.Native.Char.{code}
use Rattle.std.specs.Prelude.{ℕ, zero, suc, ◌≤◌, ◌<◌, length, get_or, take, Bool, true, false, cond, List, [], ◌∷◌, ◌≡◌, refl}
use Rattle.std.proofs.Math.Bool.{and-eq-true_iff}
use Rattle.std.proofs.Common.{ap, arith, leb-true}
use Rattle.text_decimals.specs.Bytes.{is_digit}
use Rattle.text_numerals.specs.Numerals.{digits}

abbrev pub starts_with_digit : List ℕ → Bool
starts_with_digit [] = false
starts_with_digit (c ∷ t) = is_digit c

pub digits_ind : (P : List ℕ → List ℕ → Type 0) → ((t : List ℕ) → starts_with_digit t ≡ false → P t [])
    → ((c : ℕ) (t : List ℕ) → is_digit c ≡ true → P t (digits t) → P (c ∷ t) (c ∷ digits t)) → (t : List ℕ) → P t (digits t)
digits_ind P end next [] = end [] refl
digits_ind P end next (c ∷ t) = go (digits_ind P end next t) (is_digit c) refl
  where
    go : P t (digits t) → (b : Bool) → is_digit c ≡ b → P (c ∷ t) (cond b (c ∷ digits t) [])
    go rest true e = next c t e rest
    go rest false e = end (c ∷ t) e

pub digit_range : (c : ℕ) → is_digit c ≡ true → (code "0" ≤ c) × (c ≤ code "9")
digit_range c e =
    let (low, high) = (and-eq-true_iff _ _).0 e in
    (leb-true _ c low, leb-true c _ high)

pub no_digits : (t : List ℕ) → starts_with_digit t ≡ false → digits t ≡ []
no_digits [] e = refl
no_digits (c ∷ t) e = rw e

-- the digits are the first bytes of the text
pub digits_are_first : (t : List ℕ) → take (length (digits t)) t ≡ digits t
digits_are_first = digits_ind (λ t ds. take (length ds) t ≡ ds) (λ t e. refl) λ c t e same. ap (λ l. c ∷ l) same

-- digits alone are all digits
pub digits_again : (t : List ℕ) → digits (digits t) ≡ digits t
digits_again = digits_ind (λ t ds. digits ds ≡ ds) (λ t e. refl) λ c t e same. rw (e, same)

pub record DigitAt (t ds : List ℕ) (k : ℕ) : Type 0 where
  pub same : get_or t k 0 ≡ get_or ds k 0
  pub low : code "0" ≤ get_or t k 0
  pub high : get_or t k 0 ≤ code "9"

pub digit_at : (t : List ℕ) (k : ℕ) → k < length (digits t) → DigitAt t (digits t) k
digit_at = digits_ind (λ t ds. (k : ℕ) → k < length ds → DigitAt t ds k) (λ t e k h. absurd (omega arith)) go
  where
    go : (c : ℕ) (t : List ℕ) → is_digit c ≡ true → ((k : ℕ) → k < length (digits t) → DigitAt t (digits t) k)
        → (k : ℕ) → k < suc (length (digits t)) → DigitAt (c ∷ t) (c ∷ digits t) k
    go c t e rest zero h = let (low, high) = digit_range c e in record { same = refl; low = low; high = high }
    go c t e rest (suc k) h = let r = rest k (omega arith) in record { same = r.same; low = r.low; high = r.high }
