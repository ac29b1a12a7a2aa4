-- What is written of a natural number: digits, of that value, without a leading zero; and digits without a leading zero are what is
-- written of their value.
use Prim.Native.Char.{code}
use Rattle.std.specs.Prelude.{ℕ, zero, suc, ◌+◌, ◌-◌, ◌*◌, ◌/◌, ◌%◌, ◌≤◌, ◌<◌, ltb, eqb, length, get_or, Bool, true, false, List, [], ◌∷◌, ◌++◌, ◌≡◌, refl}
use Rattle.std.proofs.Common.{length-append, append-nil, append_assoc, sym, ap, ◌∙◌, arith, ltb-true, ltb-false, le-leb, ne_eqb, eqb-true}
use Rattle.std.proofs.Math.ListN.{get_or-append}
use Rattle.std.proofs.lemmas.Bool.{false≢true, eqb-false}
use Rattle.std.proofs.Math.Bool.{or-true, or-false}
use Rattle.text_decimals.specs.Bytes.{is_digit}
use Rattle.text_decimals.specs.Decimal.{natural}
use Rattle.text_decimals.specs.Digits.{natural_small, natural_more, natural_length}
use Rattle.text_numerals.specs.DigitsRead.{digits_ind, digit_range}
use Rattle.text_numerals.specs.NaturalRead.{natural_parts}
use Rattle.text_numerals.specs.Numerals.{digits, value_after, value, is_natural}
use Rattle.text_numerals.specs.Value.{value_append}

-- what holds of a single digit, and of a number where it holds of its tenth, holds of what is written of each number
module _ (P : ℕ → List ℕ → Type 0) (units : (n : ℕ) → n < 10 → P n ((code "0" + n) ∷ []))
    (more : (n : ℕ) (ds : List ℕ) → 10 ≤ n → P (n / 10) ds → P n (ds ++ (code "0" + n % 10) ∷ [])) where
  below : (k n : ℕ) → n < k → P n (natural n)
  below zero n h = absurd (omega arith)
  below (suc k) n h = go (below k (n / 10)) (ltb n 10) refl
    where
      go : (n / 10 < k → P (n / 10) (natural (n / 10))) → (b : Bool) → ltb n 10 ≡ b → P n (natural n)
      go tenth true e = let small = ltb-true n 10 e in rw (natural_small n small) (units n small)
      go tenth false e = let large = ltb-false n 10 e in rw (natural_more n large) (more n (natural (n / 10)) large (tenth (omega arith)))

  natural_ind : (n : ℕ) → P n (natural n)
  natural_ind n = below (suc n) n (omega arith)

digit_written : (d : ℕ) → d < 10 → is_digit (code "0" + d) ≡ true
digit_written d h = rw (le-leb (code "0") (code "0" + d) (omega arith), le-leb (code "0" + d) (code "9") (omega arith))

-- every byte of it is a digit
pub natural_digits : (n : ℕ) (t : List ℕ) → digits (natural n ++ t) ≡ natural n ++ digits t
natural_digits = natural_ind (λ n ds. (t : List ℕ) → digits (ds ++ t) ≡ ds ++ digits t) units more
  where
    units : (n : ℕ) → n < 10 → (t : List ℕ) → digits ((code "0" + n) ∷ t) ≡ (code "0" + n) ∷ digits t
    units n h t = rw (digit_written n h)

    more : (n : ℕ) (ds : List ℕ) → 10 ≤ n → ((t : List ℕ) → digits (ds ++ t) ≡ ds ++ digits t)
        → (t : List ℕ) → digits (ds ++ (code "0" + n % 10) ∷ [] ++ t) ≡ ds ++ (code "0" + n % 10) ∷ [] ++ digits t
    more n ds h front t = simp append_assoc (front ((code "0" + n % 10) ∷ t) ∙ ap (λ l. ds ++ l) (units (n % 10) (omega arith) t))

pub natural_value : (n : ℕ) → value (natural n) ≡ n
natural_value = natural_ind (λ n ds. value ds ≡ n) (λ n h. omega arith) λ n ds h same. rw (value_append 0 ds, same) (omega arith)

-- no leading zero
pub natural_leads : (n : ℕ) → (0 < length (natural n)) × (0 < n → code "0" < get_or (natural n) 0 0)
natural_leads = natural_ind (λ n ds. (0 < length ds) × (0 < n → code "0" < get_or ds 0 0)) (λ n h. omega arith) more
  where
    more : (n : ℕ) (ds : List ℕ) → 10 ≤ n → (0 < length ds) × (0 < n / 10 → code "0" < get_or ds 0 0)
        → (0 < length (ds ++ (code "0" + n % 10) ∷ [])) × (0 < n → code "0" < get_or (ds ++ (code "0" + n % 10) ∷ []) 0 0)
    more n ds h (some, leads) = (simp length-append (omega arith), λ q. rw (get_or-append ds _ 0 0 some) (leads (omega arith)))

natural_tens : (m d : ℕ) → 0 < m → d < 10 → natural (10 * m + d) ≡ natural m ++ (code "0" + d) ∷ []
natural_tens m d p h =
    let tens : (10 * m + d) / 10 ≡ m = omega arith in
    let units : (10 * m + d) % 10 ≡ d = omega arith in
    rw (natural_more (10 * m + d) (omega arith), tens, units)

-- the digits after others
natural_after : (t : List ℕ) (m : ℕ) → 0 < m → natural (value_after m (digits t)) ≡ natural m ++ digits t
natural_after = digits_ind (λ t ds. (m : ℕ) → 0 < m → natural (value_after m ds) ≡ natural m ++ ds) (λ t e m p. sym (append-nil (natural m))) go
  where
    go : (c : ℕ) (t : List ℕ) → is_digit c ≡ true → ((m : ℕ) → 0 < m → natural (value_after m (digits t)) ≡ natural m ++ digits t)
        → (m : ℕ) → 0 < m → natural (value_after m (c ∷ digits t)) ≡ natural m ++ c ∷ digits t
    go c t e rest m p =
        let (low, high) = digit_range c e in
        let same : code "0" + (c - code "0") ≡ c = omega arith in
        rw (rest (10 * m + (c - code "0")) (omega arith), natural_tens m (c - code "0") p (omega arith), same) (append_assoc (natural m) (c ∷ []) (digits t))

-- "1 to 7 decimal digits, no leading zero": so it is written, and what is so is written of its value
pub written_is_natural : (n : ℕ) → n < 10000000 → is_natural (natural n) ≡ true
unfolding natural
written_is_natural zero h = refl
written_is_natural (suc n) h =
    let (some, leads) = natural_leads (suc n) in
    let few = natural_length 7 (suc n) (omega arith) h in
    rw (le-leb 1 _ some, le-leb _ 7 few, ne_eqb (get_or (natural (suc n)) 0 0) (code "0") (λ q. omega (arith, leads (omega arith), q))) (or-true (eqb (length (natural (suc n))) 1))

pub natural_is_written : (t : List ℕ) → is_natural (digits t) ≡ true → natural (value (digits t)) ≡ digits t
natural_is_written = digits_ind (λ t ds. is_natural ds ≡ true → natural (value ds) ≡ ds) (λ t e is. absurd (false≢true is)) λ c t e rest. go c t e (eqb c (code "0")) refl
  where
    first : (c : ℕ) → is_digit c ≡ true → natural (value (c ∷ [])) ≡ c ∷ []
    first c e =
        let (low, high) = digit_range c e in
        let same : code "0" + (10 * 0 + (c - code "0")) ≡ c = omega arith in
        rw (natural_small (10 * 0 + (c - code "0")) (omega arith), same)

    alone : (c : ℕ) (ds : List ℕ) → is_digit c ≡ true → length ds ≡ 0 → natural (value (c ∷ ds)) ≡ c ∷ ds
    alone c [] e l = first c e
    alone c (d ∷ ds) e l = absurd (omega arith)

    go : (c : ℕ) (t : List ℕ) → is_digit c ≡ true → (b : Bool) → eqb c (code "0") ≡ b
        → is_natural (c ∷ digits t) ≡ true → natural (value (c ∷ digits t)) ≡ c ∷ digits t
    go c t e true leads is =
        let single = rw (leads, or-false (eqb (length (c ∷ digits t)) 1)) at (natural_parts (c ∷ digits t) is).leads in
        alone c (digits t) e (omega (arith, eqb-true (length (c ∷ digits t)) 1 single))
    go c t e false leads is =
        let (low, high) = digit_range c e in
        natural_after t (10 * 0 + (c - code "0")) (omega (arith, eqb-false c (code "0") leads)) ∙ ap (λ l. l ++ digits t) (first c e)
