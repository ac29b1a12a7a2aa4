-- How the digits of a number are those of its tenth and one more, and how many there are.
use Prim.Native.Char.{code}
use Rattle.std.specs.Prelude.{ℕ, zero, suc, ◌+◌, ◌/◌, ◌%◌, ◌^◌, ◌≤◌, ◌<◌, ltb, length, Bool, true, false, [], ◌∷◌, ◌++◌, ◌≡◌, refl}
use Rattle.std.proofs.Common.{arith, length-append, lt-ltb, le-ltb, ltb-true, ltb-false}
use Rattle.text_decimals.specs.Decimal.{digits_within, natural}

-- any two bounds beyond the number give the same digits
enough : (j k n : ℕ) → n < j → n < k → digits_within j n ≡ digits_within k n
enough zero k n h l = absurd (omega arith)
enough (suc j) zero n h l = absurd (omega arith)
enough (suc j) (suc k) n h l = go (ltb n 10) refl λ m. enough j k (n / 10) (omega arith) (omega arith)
  where
    go : (t : Bool) → ltb n 10 ≡ t → (10 ≤ n → digits_within j (n / 10) ≡ digits_within k (n / 10)) → digits_within (suc j) n ≡ digits_within (suc k) n
    go true e fewer = rw e
    go false e fewer = rw (e, fewer (ltb-false n 10 e))

pub natural_small : (n : ℕ) → n < 10 → natural n ≡ (code "0" + n) ∷ []
unfolding natural
natural_small n h = let same : n % 10 ≡ n = omega arith in rw (lt-ltb n 10 h, same)

pub natural_more : (n : ℕ) → 10 ≤ n → natural n ≡ natural (n / 10) ++ (code "0" + n % 10) ∷ []
unfolding natural
natural_more n h = rw (le-ltb n 10 h, enough n (suc (n / 10)) (n / 10) (omega arith) (omega arith))

pub length_small : (n : ℕ) → n < 10 → length (natural n) ≡ 1
length_small n h = rw (natural_small n h)

pub length_more : (n : ℕ) → 10 ≤ n → length (natural n) ≡ length (natural (n / 10)) + 1
length_more n h = rw (natural_more n h) (length-append (natural (n / 10)) ((code "0" + n % 10) ∷ []))

-- a number below a power of ten has no more digits than the power says
pub natural_length : (k n : ℕ) → 0 < k → n < 10 ^ k → length (natural n) ≤ k
natural_length zero n some h = absurd (omega arith)
natural_length (suc zero) n some h = omega (arith, length_small n h)
natural_length (suc (suc k)) n some h = go (ltb n 10) refl (natural_length (suc k) (n / 10) (omega arith) (omega arith))
  where
    go : (t : Bool) → ltb n 10 ≡ t → length (natural (n / 10)) ≤ suc k → length (natural n) ≤ suc (suc k)
    go true e fewer = omega (arith, length_small n (ltb-true n 10 e))
    go false e fewer = omega (arith, length_more n (ltb-false n 10 e))
