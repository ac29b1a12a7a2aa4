-- What the operations on words do to the members of a set: the laws, at any width. Nothing but this file and Bit opens
-- `bit`. Assumes nothing.
use Rattle.std.specs.Prelude.{ℕ, zero, suc, ◌+◌, ◌-◌, ◌*◌, ◌/◌, ◌%◌, ◌^◌, ◌≤◌, ◌<◌, Bool, true, false, cond, not, ◌&&◌, ◌||◌, ◌≡◌, refl, ◌≢◌, ltb}
use Rattle.std.proofs.Math.Bool.{xor, or-true, or-false, and-true}
use Rattle.std.proofs.Common.{sym, ◌∙◌, subst, div-one, lt_of_lt_of_le, lt_of_le_of_lt, mod-eq_of_lt, mod-lt, one-mul, pow-suc, add-one, arith, eqb-true, lt-ltb, le-ltb, eq-eqb, ne_eqb, pow_mono, pow_pos, shr-shr}
use Rattle.std.proofs.Math.Path.{ap, subst⁻¹}
use Rattle.std.proofs.Math.Decide.{dec_lt, ℕ_discrete}
use Rattle.std.proofs.Math.Nat.{div-eq_of_lt}
use Rattle.std.proofs.Math.Arith.{bin_ind}
use Rattle.std.specs.Int.Bits.{bit_and, bit_or, bit_xor, or_add_and, xor_add_and, shifted_even, shifted_half}
use Rattle.std.proofs.lemmas.Nat.{and_le_l, and_le_r, and_mask, and_mod, and_shr, or_mod, or_shr, xor_mod, xor_shr, shl-shr}
use Rattle.std.proofs.Math.Dec.{eqb, eqb-zero-suc, eqb-suc-zero, eqb-suc-suc, leb-suc-zero, leb-suc-suc}
use Rattle.std.proofs.lemmas.Bool.{eqb-false, not-false}
use Rattle.std.proofs.Math.Pow.{pow-lt, split}
use Rattle.ground_sets.specs.Bit.{bit, singleton, union, intersection, difference, with, without, set_of}

-- ---- digits

-- what holds of 0 and of 1 holds of every remainder by 2
digit : (P : ℕ → Type 0) → P 0 → P 1 → (w : ℕ) → P (w % 2)
digit P p q w = go (w % 2) (omega arith)
  where
    go : (d : ℕ) → d < 2 → P d
    go zero h = p
    go (suc zero) h = q
    go (suc (suc d)) h = absurd (omega arith)

pub bit_low : (w : ℕ) → bit w 0 ≡ eqb (w % 2) 1
unfolding bit
bit_low w = ap (λ (x : ℕ). eqb (x % 2) 1) (div-one w)

pub bit_odd : (w : ℕ) → bit w 0 ≡ true → w % 2 ≡ 1
bit_odd w e = eqb-true (w % 2) 1 (sym (bit_low w) ∙ e)

pub bit_even : (w : ℕ) → bit w 0 ≡ false → w % 2 ≡ 0
bit_even w e = omega (arith, eqb-false (w % 2) 1 (sym (bit_low w) ∙ e))

-- words with the same lowest bit have the same lowest digit, since the bit tells the digit
same_digit : (a b : ℕ) → bit a 0 ≡ bit b 0 → a % 2 ≡ b % 2
same_digit a b e = told a ∙ ap (λ (t : Bool). cond t 1 0) e ∙ sym (told b)
  where
    told : (w : ℕ) → w % 2 ≡ cond (bit w 0) 1 0
    told w = rw bit_low (digit (λ (d : ℕ). d ≡ cond (eqb d 1) 1 0) refl refl w)

pub bit_shift : (w i k : ℕ) → bit (w / 2 ^ i) k ≡ bit w (i + k)
unfolding bit
bit_shift w i k = ap (λ (x : ℕ). eqb (x % 2) 1) (shr-shr w i k)

pub bit_half : (w k : ℕ) → bit (w / 2) k ≡ bit w (suc k)
bit_half w k = bit_shift w 1 k ∙ ap (bit w) (omega arith)

-- ---- the empty set, one member, and the bits past the width

pub bit_high : (n w k : ℕ) → w < 2 ^ n → n ≤ k → bit w k ≡ false
unfolding bit
bit_high n w k h l = ap (λ (x : ℕ). eqb (x % 2) 1) (div-eq_of_lt (lt_of_lt_of_le h (pow_mono l)))

-- the highest bit of a number
pub bit_top : (w k : ℕ) → 2 ^ k ≤ w → w < 2 ^ suc k → bit w k ≡ true
bit_top w zero low high =
    let one : w % 2 ≡ 1 = omega (arith, low, high) in
    bit_low w ∙ ap (λ (x : ℕ). eqb x 1) one
bit_top w (suc k) low high =
    sym (bit_half w k) ∙ bit_top (w / 2) k (omega (arith, low, pow-suc 2 k)) (omega (arith, high, pow-suc 2 (suc k)))

pub bit_zero : (k : ℕ) → bit 0 k ≡ false
bit_zero k = bit_high 0 0 k (omega arith) (omega arith)

bit_singleton : (j k : ℕ) → bit (singleton j) k ≡ eqb j k
unfolding singleton
bit_singleton zero zero = bit_low 1
bit_singleton zero (suc k) = sym (bit_half 1 k) ∙ bit_zero k ∙ sym (eqb-zero-suc k)
bit_singleton (suc j) zero =
    let even : 2 ^ suc j % 2 ≡ 0 = omega (arith, pow-suc 2 j) in
    bit_low (2 ^ suc j) ∙ ap (λ (x : ℕ). eqb x 1) even ∙ sym (eqb-suc-zero j)
bit_singleton (suc j) (suc k) =
    let half : 2 ^ suc j / 2 ≡ 2 ^ j = omega (arith, pow-suc 2 j) in
    sym (bit_half (2 ^ suc j) k) ∙ ap (λ (x : ℕ). bit x k) half ∙ bit_singleton j k ∙ sym (eqb-suc-suc j k)

-- ---- a set is what its bits say

empty : (w : ℕ) → ((k : ℕ) → bit w k ≡ false) → w ≡ 0
empty =
    bin_ind (λ (w : ℕ). ((k : ℕ) → bit w k ≡ false) → w ≡ 0) (λ h. refl)
    (λ w ih h. omega (arith, ih (λ k. bit_half w k ∙ h (suc k)), same_digit w 0 (h 0 ∙ sym (bit_zero 0))))

pub bits_bound : (n w : ℕ) → ((k : ℕ) → n ≤ k → bit w k ≡ false) → w < 2 ^ n
bits_bound n w h =
    let none : w / 2 ^ n ≡ 0 = empty (w / 2 ^ n) (λ k. bit_shift w n k ∙ h (n + k) (omega arith)) in
    omega (arith, rw none at (split w n), mod-lt w (pow_pos n))

-- two words with the same bits are equal
pub bit_ext : (a b : ℕ) → ((k : ℕ) → bit a k ≡ bit b k) → a ≡ b
bit_ext =
    bin_ind (λ (a : ℕ). (b : ℕ) → ((k : ℕ) → bit a k ≡ bit b k) → a ≡ b)
    (λ b h. sym (empty b (λ k. sym (h k) ∙ bit_zero k)))
    (λ a ih b h. omega (arith, ih (b / 2) (λ k. bit_half a k ∙ h (suc k) ∙ sym (bit_half b k)), same_digit a b (h 0)))

-- ---- operations bit by bit

-- an operation that commutes with shifts and masks is told by its table on single digits
module _ (op : ℕ → ℕ → ℕ) (f : Bool → Bool → Bool)
    (shr : (a b k : ℕ) → op a b / 2 ^ k ≡ op (a / 2 ^ k) (b / 2 ^ k))
    (low : (a b k : ℕ) → op a b % 2 ^ k ≡ op (a % 2 ^ k) (b % 2 ^ k))
    (t00 : eqb (op 0 0) 1 ≡ f false false) (t01 : eqb (op 0 1) 1 ≡ f false true)
    (t10 : eqb (op 1 0) 1 ≡ f true false) (t11 : eqb (op 1 1) 1 ≡ f true true) where
  table : (a b : ℕ) → eqb (op (a % 2) (b % 2)) 1 ≡ f (eqb (a % 2) 1) (eqb (b % 2) 1)
  table a b =
      digit (λ (x : ℕ). eqb (op x (b % 2)) 1 ≡ f (eqb x 1) (eqb (b % 2) 1))
      (digit (λ (y : ℕ). eqb (op 0 y) 1 ≡ f false (eqb y 1)) t00 t01 b)
      (digit (λ (y : ℕ). eqb (op 1 y) 1 ≡ f true (eqb y 1)) t10 t11 b)
      a

  bit_op : (a b k : ℕ) → bit (op a b) k ≡ f (bit a k) (bit b k)
  unfolding bit
  bit_op a b k =
      ap (λ (x : ℕ). eqb (x % 2) 1) (shr a b k)
      ∙ ap (λ (x : ℕ). eqb x 1) (low (a / 2 ^ k) (b / 2 ^ k) 1)
      ∙ table (a / 2 ^ k) (b / 2 ^ k)

pub bit_union : (a b k : ℕ) → bit (union a b) k ≡ (bit a k || bit b k)
unfolding union
bit_union = bit_op bit_or ◌||◌ or_shr or_mod refl refl refl refl

pub bit_intersection : (a b k : ℕ) → bit (intersection a b) k ≡ (bit a k && bit b k)
unfolding intersection
bit_intersection = bit_op bit_and ◌&&◌ and_shr and_mod refl refl refl refl

pub bit_of_xor : (a b k : ℕ) → bit (bit_xor a b) k ≡ xor (bit a k) (bit b k)
unfolding xor
bit_of_xor = bit_op bit_xor xor xor_shr xor_mod refl refl refl refl

bit_complement : (n b k : ℕ) → b < 2 ^ n → k < n → bit (2 ^ n - 1 - b) k ≡ not (bit b k)
bit_complement zero b k h l = absurd (omega arith)
bit_complement (suc n) b zero h l =
    let flipped : (2 ^ suc n - 1 - b) % 2 ≡ 1 - b % 2 = omega (arith, pow-suc 2 n) in
    bit_low (2 ^ suc n - 1 - b) ∙ ap (λ (x : ℕ). eqb x 1) flipped
    ∙ digit (λ (d : ℕ). eqb (1 - d) 1 ≡ not (eqb d 1)) refl refl b ∙ ap not (sym (bit_low b))
bit_complement (suc n) b (suc k) h l =
    let half : (2 ^ suc n - 1 - b) / 2 ≡ 2 ^ n - 1 - b / 2 = omega (arith, pow-suc 2 n) in
    sym (bit_half (2 ^ suc n - 1 - b) k) ∙ ap (λ (x : ℕ). bit x k) half
    ∙ bit_complement n (b / 2) k (omega (arith, pow-suc 2 n)) (omega arith) ∙ ap not (bit_half b k)

pub bit_difference : (n a b k : ℕ) → a < 2 ^ n → b < 2 ^ n → bit (difference n a b) k ≡ (bit a k && not (bit b k))
unfolding difference intersection
bit_difference n a b k ha hb = bit_intersection a (2 ^ n - 1 - b) k ∙ kept (dec_lt k n)
  where
    kept : Dec (k < n) → (bit a k && bit (2 ^ n - 1 - b) k) ≡ (bit a k && not (bit b k))
    kept (yes h) = ap (λ (t : Bool). bit a k && t) (bit_complement n b k hb h)
    kept (no h) = rw (bit_high n a k ha (omega arith))

-- a set without the members of another is empty only where it lies within the other
pub subset_yes : (n a b : ℕ) → a < 2 ^ n → b < 2 ^ n → difference n a b ≡ 0 → (k : ℕ) → bit a k ≡ true → bit b k ≡ true
subset_yes n a b ha hb e k h =
    not-false (bit b k) (rw h at (sym (bit_difference n a b k ha hb) ∙ ap (λ (x : ℕ). bit x k) e ∙ bit_zero k))

-- a union is empty where both sets are, and only there; and words that differ in no bit are the same
pub union_none : (a b : ℕ) → union a b ≡ 0 → (a ≡ 0) × (b ≡ 0)
unfolding union
union_none a b e = omega (arith, or_add_and a b, and_le_l a b, and_le_r a b)

pub xor_none : (a b : ℕ) → bit_xor a b ≡ 0 → a ≡ b
xor_none a b e = omega (arith, xor_add_and a b, and_le_l a b, and_le_r a b)

-- ---- ranges

pub difference_lt : (n a b : ℕ) → a < 2 ^ n → difference n a b < 2 ^ n
unfolding difference
difference_lt n a b h = lt_of_le_of_lt (and_le_l a (2 ^ n - 1 - b)) h

singleton_lt : (n j : ℕ) → j < n → singleton j < 2 ^ n
unfolding singleton
singleton_lt n j h = pow-lt h

-- ---- one job in, one job out

pub bit_with : (w j k : ℕ) → bit (with w j) k ≡ (bit w k || eqb j k)
unfolding with
bit_with w j k = rw (bit_union, bit_singleton)

pub bit_without : (n w j k : ℕ) → w < 2 ^ n → j < n → bit (without n w j) k ≡ (bit w k && not (eqb j k))
unfolding without
bit_without n w j k h l =
    bit_difference n w (singleton j) k h (singleton_lt n j l) ∙ ap (λ (t : Bool). bit w k && not t) (bit_singleton j k)

pub without_lt : (n w j : ℕ) → w < 2 ^ n → without n w j < 2 ^ n
unfolding without
without_lt n w j h = difference_lt n w (singleton j) h

-- ---- the set of those that pass a test

lowest : (s : Bool) (w : ℕ) → bit (cond s 1 0 + 2 * w) 0 ≡ s
lowest true w = bit_low (1 + 2 * w) ∙ eq-eqb ((1 + 2 * w) % 2) 1 (omega arith)
lowest false w = bit_low (0 + 2 * w) ∙ ne_eqb ((0 + 2 * w) % 2) 1 (λ e. omega arith)

others : (s : Bool) (w k : ℕ) → bit (cond s 1 0 + 2 * w) (suc k) ≡ bit w k
others true w k = sym (bit_half (1 + 2 * w) k) ∙ ap (λ (x : ℕ). bit x k) (omega arith)
others false w k = sym (bit_half (0 + 2 * w) k) ∙ ap (λ (x : ℕ). bit x k) (omega arith)

pub bit_set_of : (n : ℕ) (t : ℕ → Bool) (k : ℕ) → bit (set_of n t) k ≡ (ltb k n && t k)
unfolding set_of
bit_set_of zero t k = bit_zero k ∙ rw (leb-suc-zero k)
bit_set_of (suc n) t zero = lowest (t 0) (set_of n (λ k. t (suc k))) ∙ rw (lt-ltb 0 (suc n) (omega arith))
bit_set_of (suc n) t (suc k) =
    let u : ℕ → Bool = λ j. t (suc j) in
    others (t 0) (set_of n u) k ∙ bit_set_of n u k ∙ rw (leb-suc-suc (suc k) n)

-- the next job is put in where it passes the test
module _ (n : ℕ) (t : ℕ → Bool) where
  next_set : (w : ℕ) → bit w n ≡ t n → ((k : ℕ) → n ≢ k → bit w k ≡ bit (set_of n t) k) → set_of (n + 1) t ≡ w
  next_set w last others = rw (add-one n) (bit_ext (set_of (suc n) t) w λ k. bit_set_of (suc n) t k ∙ go k (ℕ_discrete n k) (dec_lt k n))
    where
      go : (k : ℕ) → Dec (n ≡ k) → Dec (k < n) → (ltb k (suc n) && t k) ≡ bit w k
      go k (yes e) d = subst (λ (x : ℕ). (ltb x (suc n) && t x) ≡ bit w x) e (rw (lt-ltb n (suc n) (omega arith)) (sym last))
      go k (no e) (yes l) = rw (lt-ltb k (suc n) (omega arith), others k e, bit_set_of n t k, lt-ltb k n l)
      go k (no e) (no l) = rw (le-ltb k (suc n) (omega (arith, e)), others k e, bit_set_of n t k, le-ltb k n (omega arith))

  pub set_of_with : t n ≡ true → set_of (n + 1) t ≡ with (set_of n t) n
  set_of_with e =
      next_set (with (set_of n t) n)
      (bit_with (set_of n t) n n ∙ rw (eq-eqb n n refl, e) (or-true (bit (set_of n t) n)))
      (λ k ne. bit_with (set_of n t) n k ∙ rw (ne_eqb n k ne) (or-false (bit (set_of n t) k)))

  pub set_of_same : t n ≡ false → set_of (n + 1) t ≡ set_of n t
  set_of_same e = next_set (set_of n t) (bit_set_of n t n ∙ rw (le-ltb n n (omega arith)) (sym e)) (λ k ne. refl)

-- ---- parts of a set

-- a part of a set is no greater a word
pub part_at_most : (a b : ℕ) → ((k : ℕ) → bit a k ≡ true → bit b k ≡ true) → a ≤ b
unfolding intersection
part_at_most a b inside =
    let same : a ≡ intersection a b = bit_ext a (intersection a b) λ k. sym (bit_intersection a b k ∙ both (bit a k) (bit b k) (inside k)) in
    subst⁻¹ (λ x. x ≤ b) same (and_le_r a b)
  where
    both : (s t : Bool) → (s ≡ true → t ≡ true) → (s && t) ≡ s
    both true t h = h refl
    both false t h = refl

-- and a smaller one where a member is missing
pub part_below : (a b j : ℕ) → ((k : ℕ) → bit a k ≡ true → bit b k ≡ true) → bit b j ≡ true → (bit a j ≡ true → ⊥) → a < b
part_below a b j inside member missing =
    let differ : a ≢ b = λ same. missing (ap (λ (x : ℕ). bit x j) same ∙ member) in
    omega (arith, part_at_most a b inside, differ)

-- ---- the code's shifts and masks

-- `(w >> k) & 1 == 1`
pub bit_tested : (w k : ℕ) → eqb (bit_and (w / 2 ^ k) 1) 1 ≡ bit w k
unfolding bit
bit_tested w k = ap (λ (x : ℕ). eqb x 1) (and_mask (w / 2 ^ k) 1)

-- `1 << k`, which at a word of n bits loses no job below n
pub singleton_shifted : (n k : ℕ) → k < n → 1 * 2 ^ k % 2 ^ n ≡ singleton k
unfolding singleton
singleton_shifted n k h = ap (λ (x : ℕ). x % 2 ^ n) (one-mul (2 ^ k)) ∙ mod-eq_of_lt (pow-lt h)

-- `w << j`, before the bits past the width are lost: what was bit k is bit j + k
pub bit_left : (w j k : ℕ) → bit (w * 2 ^ j) (j + k) ≡ bit w k
bit_left w j k = sym (bit_shift (w * 2 ^ j) j k) ∙ ap (λ (x : ℕ). bit x k) (shl-shr w j)

pub bit_left_low : (w j k : ℕ) → k < j → bit (w * 2 ^ j) k ≡ false
bit_left_low w zero k h = absurd (omega arith)
bit_left_low w (suc j) zero h = bit_low (w * 2 ^ suc j) ∙ ap (λ (x : ℕ). eqb x 1) (shifted_even w j)
bit_left_low w (suc j) (suc k) h =
    sym (bit_half (w * 2 ^ suc j) k) ∙ ap (λ (x : ℕ). bit x k) (shifted_half w j) ∙ bit_left_low w j k (omega arith)

-- the bits below the width are kept
pub bit_kept : (n w k : ℕ) → k < n → bit (w % 2 ^ n) k ≡ bit w k
unfolding intersection
bit_kept n w k h =
    let ones : 2 ^ n - 1 ≡ 2 ^ n - 1 - 0 = omega arith in
    ap (λ (x : ℕ). bit x k) (sym (and_mask w n)) ∙ bit_intersection w (2 ^ n - 1) k
    ∙ rw (ones, bit_complement n 0 k (pow_pos n) h, bit_zero k) (and-true (bit w k))
