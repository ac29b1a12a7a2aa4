-- What digits come to: digit by digit, and within bounds.
use Prim.Native.Char.{code}
use Rattle.std.specs.Prelude.{ℕ, zero, suc, ◌+◌, ◌-◌, ◌*◌, ◌^◌, ◌≤◌, ◌<◌, length, get_or, take, true, false, List, [], ◌∷◌, ◌++◌, ◌≡◌, refl}
use Rattle.std.proofs.Common.{take-suc, mul-le-mul_right, pow-suc, add-one, arith}
use Rattle.std.proofs.Math.Nat.{pow-le-pow_right}
use Rattle.text_decimals.specs.Bytes.{is_digit}
use Rattle.text_numerals.specs.DigitsRead.{starts_with_digit, digits_ind, digit_range, digit_at}
use Rattle.text_numerals.specs.Numerals.{digits, value_after, value}

pub value_append : (n : ℕ) (ds es : List ℕ) → value_after n (ds ++ es) ≡ value_after (value_after n ds) es
value_append n [] es = refl
value_append n (d ∷ ds) es = value_append (10 * n + (d - code "0")) ds es

-- one digit more
pub value_go_on : (t : List ℕ) (k : ℕ) → k < length (digits t)
    → value (take (k + 1) (digits t)) ≡ 10 * value (take k (digits t)) + (get_or t k 0 - code "0")
value_go_on t k h =
    rw (add-one k, take-suc (digits t) k 0 h, value_append 0 (take k (digits t)) (get_or (digits t) k 0 ∷ []), (digit_at t k h).same)

-- k digits come to less than 10 ^ k
value_below : (t : List ℕ) (k n : ℕ) → k ≤ length (digits t) → value_after n (take k (digits t)) < suc n * 10 ^ k
value_below = digits_ind (λ t ds. (k n : ℕ) → k ≤ length ds → value_after n (take k ds) < suc n * 10 ^ k) end next
  where
    end : (t : List ℕ) → starts_with_digit t ≡ false → (k n : ℕ) → k ≤ 0 → value_after n (take k []) < suc n * 10 ^ k
    end t e zero n h = omega arith
    end t e (suc k) n h = absurd (omega arith)

    next : (c : ℕ) (t : List ℕ) → is_digit c ≡ true
        → ((k n : ℕ) → k ≤ length (digits t) → value_after n (take k (digits t)) < suc n * 10 ^ k)
        → (k n : ℕ) → k ≤ suc (length (digits t)) → value_after n (take k (c ∷ digits t)) < suc n * 10 ^ k
    next c t e rest zero n h = omega arith
    next c t e rest (suc k) n h =
        let (low, high) = digit_range c e in
        let m = 10 * n + (c - code "0") in
        rw (pow-suc 10 k) (omega (arith, rest k m (omega arith), mul-le-mul_right {m = suc m} {n = suc n * 10} (10 ^ k) (omega arith)))

pub value_short : (t : List ℕ) (k : ℕ) → k ≤ length (digits t) → k ≤ 7 → value (take k (digits t)) < 10000000
value_short t k h seven = omega (arith, value_below t k 0 h, pow-le-pow_right {n = 10} (omega arith) seven)
