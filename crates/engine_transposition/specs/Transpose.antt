-- The transpose of a matrix of bits, 64 words of 64 bits, by rounds: from where one round takes each bit, over any width of
-- blocks, and that six of them, the width halved each time, take each bit from its mirror image.
use Rattle.std.specs.Prelude.{◌≡◌, refl, Bool, true, false, cond, not, ◌&&◌, List, ℕ, ◌+◌, ◌-◌, ◌*◌, ◌/◌, ◌%◌, ◌^◌, ◌≤◌, ◌<◌, eqb, leb, ltb, length, get_or, set}
use Rattle.std.proofs.Common.{sym, ◌∙◌, length-set, get_or-set_same, get_or-set_other}
use Rattle.std.proofs.Math.Path.{ap}
use Rattle.std.proofs.Math.Bool.{xor}
use Rattle.std.proofs.Math.Decide.{dec_lt, ℕ_discrete}
use native.Mathlib.Omega.{arith}
use Rattle.std.specs.Int.Bits.{bit_and, bit_xor}
use borrow.Author.Tests.{eq-eqb, ne_eqb}
use Rattle.ground_sets.specs.Bit.{bit, width, intersection}
use Rattle.ground_sets.specs.BitLaws.{bit_of_xor, bit_intersection, bit_shift, bit_left, bit_left_low, bit_kept}
use Rattle.ground_arithmetic.specs.Bools.{refuted, is_false, by_test}
use Rattle.paper_board.specs.Paper.Tests.{implies}
use Rattle.paper_board.specs.BoardTests.WithinLimits.{all}
use Rattle.paper_board.specs.BoardTests.Decides.{Decides, restated, holds, negated, implied, every, ◌and◌, le, lt, eq}

-- ---- masks

-- The masked bits are the first halves of the blocks of twice the shift: shifted up, they are the second halves.
pub record Mask (shift mask : ℕ) : Type 0 where
  pub short : shift < width
  pub first : (k : ℕ) → k < width → bit mask k ≡ true → (shift + k < width) × (bit mask (shift + k) ≡ true → ⊥)
  pub second : (k : ℕ) → k < width → (bit mask k ≡ true → ⊥) → (shift ≤ k) × (bit mask (k - shift) ≡ true)

unfoldable is_mask : ℕ → ℕ → Bool
is_mask shift mask =
    ltb shift width
    && all width (λ k. implies (bit mask k) (ltb (shift + k) width && not (bit mask (shift + k))))
    && all width (λ k. implies (not (bit mask k)) (leb shift k && bit mask (k - shift)))

decides_mask : (shift mask : ℕ) → Decides (is_mask shift mask) (Mask shift mask)
unfolding is_mask
decides_mask shift mask =
    restated
    (lt shift width
    and every width (λ k. implied (holds (bit mask k)) (lt (shift + k) width and negated (holds (bit mask (shift + k)))))
    and every width (λ k. implied (negated (holds (bit mask k))) (le shift k and holds (bit mask (k - shift)))))
    (λ h. record { short = h.0.0; first = h.0.1; second = h.1 })
    (λ m. ((m.short, m.first), m.second))

-- blocks of ones and blocks of zeros by turns, as wide as the shift
abbrev mask_of : ℕ → ℕ
mask_of shift = (2 ^ width - 1) / (2 ^ shift + 1)

pub masks : (s : ℕ) → s < 6 → Mask (2 ^ s) (mask_of (2 ^ s))
unfolding bit all implies is_mask
masks = (every 6 (λ s. decides_mask (2 ^ s) (mask_of (2 ^ s)))).yes refl

-- ---- two words

abbrev pub Lower : ℕ → ℕ → ℕ → ℕ → ℕ → Type 0
Lower shift mask low high r = (k : ℕ) → k < width → bit r k ≡ cond (bit mask k) (bit low k) (bit high (k - shift))

abbrev pub Upper : ℕ → ℕ → ℕ → ℕ → ℕ → Type 0
Upper shift mask low high r = (k : ℕ) → k < width → bit r k ≡ cond (bit mask k) (bit low (shift + k)) (bit high k)

-- what two bits differ in, where it is masked, makes the one the other
exchanged : (a b m : Bool) → xor a (m && xor a b) ≡ cond m b a
unfolding xor
exchanged true true true = refl
exchanged true false true = refl
exchanged false true true = refl
exchanged false false true = refl
exchanged true b false = refl
exchanged false b false = refl

module _ (low high shift mask : ℕ) where
  masked : (a b k : ℕ) → bit (bit_and mask (bit_xor a b)) k ≡ (bit mask k && xor (bit a k) (bit b k))
  unfolding intersection
  masked a b k = bit_intersection mask (bit_xor a b) k ∙ ap (λ (t : Bool). bit mask k && t) (bit_of_xor a b k)

  pub bit_upper : Upper shift mask low high (bit_xor high (bit_and mask (bit_xor high (low / 2 ^ shift))))
  bit_upper k l =
      bit_of_xor high (bit_and mask (bit_xor high (low / 2 ^ shift))) k
      ∙ ap (xor (bit high k)) (masked high (low / 2 ^ shift) k)
      ∙ exchanged (bit high k) (bit (low / 2 ^ shift) k) (bit mask k)
      ∙ ap (λ (t : Bool). cond (bit mask k) t (bit high k)) (bit_shift low shift k)

  abbrev moved : ℕ
  moved = bit_and mask (bit_xor (low / 2 ^ shift) high)

  abbrev lowered : ℕ
  lowered = bit_xor low (moved * 2 ^ shift % 2 ^ width)

  -- below the shift nothing moves
  unmoved : (k : ℕ) → k < width → k < shift → bit lowered k ≡ bit low k
  unmoved k w l =
      bit_of_xor low (moved * 2 ^ shift % 2 ^ width) k
      ∙ ap (xor (bit low k)) (bit_kept width (moved * 2 ^ shift) k w ∙ bit_left_low moved shift k l)
      ∙ exchanged (bit low k) true false

  moved_up : (k : ℕ) → shift + k < width → bit lowered (shift + k) ≡ cond (bit mask k) (bit high k) (bit low (shift + k))
  moved_up k w =
      bit_of_xor low (moved * 2 ^ shift % 2 ^ width) (shift + k)
      ∙ ap (xor (bit low (shift + k)))
      (bit_kept width (moved * 2 ^ shift) (shift + k) w ∙ bit_left moved shift k ∙ masked (low / 2 ^ shift) high k
      ∙ ap (λ (t : Bool). bit mask k && xor t (bit high k)) (bit_shift low shift k))
      ∙ exchanged (bit low (shift + k)) (bit high k) (bit mask k)

  pub bit_lower : Mask shift mask → Lower shift mask low high lowered
  bit_lower m k w =
      by_test (λ t. bit lowered k ≡ t) (bit mask k) (bit low k) (bit high (k - shift)) (stays (dec_lt k shift)) comes
    where
      stays : Dec (k < shift) → bit mask k ≡ true → bit lowered k ≡ bit low k
      stays (yes l) e = unmoved k w l
      stays (no l) e =
          let s : k ≡ shift + (k - shift) = omega arith in
          let out : bit mask (k - shift) ≡ false =
          is_false (bit mask (k - shift)) λ h. (m.first (k - shift) (omega arith) h).1 (ap (bit mask) (sym s) ∙ e) in
          ap (bit lowered) s ∙ moved_up (k - shift) (omega arith) ∙ rw out (ap (bit low) (sym s))

      comes : bit mask k ≡ false → bit lowered k ≡ bit high (k - shift)
      comes e =
          let (l, h) = m.second k w (refuted e) in
          let s : k ≡ shift + (k - shift) = omega arith in
          ap (bit lowered) s ∙ moved_up (k - shift) (omega arith) ∙ rw h

-- ---- a round

-- the word that bit k of word i is taken from, and its place in that word
unfoldable pub word_of : ℕ → ℕ → ℕ → ℕ
word_of mask i k = cond (bit mask k) (i / 2) (i / 2 + 32)

unfoldable pub bit_of : ℕ → ℕ → ℕ → ℕ → ℕ
bit_of shift mask i k = cond (eqb (i % 2) 0) (cond (bit mask k) k (k - shift)) (cond (bit mask k) (shift + k) k)

abbrev pub Taken : ℕ → ℕ → List ℕ → List ℕ → ℕ → Type 0
Taken shift mask from to i =
    (k : ℕ) → k < width → bit (get_or to i 0) k ≡ bit (get_or from (word_of mask i k) 0) (bit_of shift mask i k)

abbrev pub Exchanged : ℕ → ℕ → List ℕ → List ℕ → Type 0
Exchanged shift mask from to = (i : ℕ) → i < width → Taken shift mask from to i

-- a test decides from where a bit is taken
chosen : (from : List ℕ) (t : Bool) (i j x y : ℕ)
    → cond t (bit (get_or from i 0) x) (bit (get_or from j 0) y) ≡ bit (get_or from (cond t i j) 0) (cond t x y)
chosen from true i j x y = refl
chosen from false i j x y = refl

module _ (shift mask : ℕ) (from : List ℕ) (i : ℕ) where
  lower_taken : (w : ℕ) → Lower shift mask (get_or from i 0) (get_or from (i + 32) 0) w
      → (k : ℕ) → k < width → bit w k ≡ bit (get_or from (word_of mask (2 * i) k) 0) (bit_of shift mask (2 * i) k)
  unfolding word_of bit_of
  lower_taken w h k l =
      let half : 2 * i / 2 ≡ i = omega arith in
      h k l ∙ rw (half, eq-eqb (2 * i % 2) 0 (omega arith)) (chosen from (bit mask k) i (i + 32) k (k - shift))

  upper_taken : (w : ℕ) → Upper shift mask (get_or from i 0) (get_or from (i + 32) 0) w
      → (k : ℕ) → k < width → bit w k ≡ bit (get_or from (word_of mask (2 * i + 1) k) 0) (bit_of shift mask (2 * i + 1) k)
  unfolding word_of bit_of
  upper_taken w h k l =
      let half : (2 * i + 1) / 2 ≡ i = omega arith in
      h k l ∙ rw (half, ne_eqb ((2 * i + 1) % 2) 0 (λ e. omega arith)) (chosen from (bit mask k) i (i + 32) (shift + k) k)

  -- two words more
  pub taken_more : (to : List ℕ) (w v : ℕ) → i < 32 → length to ≡ width
      → Lower shift mask (get_or from i 0) (get_or from (i + 32) 0) w → Upper shift mask (get_or from i 0) (get_or from (i + 32) 0) v
      → ((j : ℕ) → j < 2 * i → Taken shift mask from to j)
      → (j : ℕ) → j < 2 * (i + 1) → Taken shift mask from (set (set to (2 * i) w) (2 * i + 1) v) j
  taken_more to w v l full lower upper before j b = go (ℕ_discrete j (2 * i + 1)) (ℕ_discrete j (2 * i))
    where
      more : List ℕ
      more = set to (2 * i) w

      at : (x : ℕ) → get_or (set more (2 * i + 1) v) j 0 ≡ x
          → ((k : ℕ) → k < width → bit x k ≡ bit (get_or from (word_of mask j k) 0) (bit_of shift mask j k))
          → Taken shift mask from (set more (2 * i + 1) v) j
      at x e h k lk = ap (λ (y : ℕ). bit y k) e ∙ h k lk

      go : Dec (j ≡ 2 * i + 1) → Dec (j ≡ 2 * i) → Taken shift mask from (set more (2 * i + 1) v) j
      go (yes e) d =
          at v (rw e (get_or-set_same more (2 * i + 1) v 0 (omega (arith, length-set to (2 * i) w)))) (rw e (upper_taken v upper))
      go (no n) (yes e) =
          at w (get_or-set_other more (2 * i + 1) j v 0 n ∙ rw e (get_or-set_same to (2 * i) w 0 (omega arith))) (rw e (lower_taken w lower))
      go (no n) (no m) =
          at (get_or to j 0) (get_or-set_other more (2 * i + 1) j v 0 n ∙ get_or-set_other to (2 * i) j w 0 m)
          (before j (omega (arith, n, m)))

-- ---- six rounds

-- the place, a word and a bit in it, from where the round that exchanges blocks of 2 ^ s takes what is at p
unfoldable source : ℕ → ℕ × ℕ → ℕ × ℕ
source s p = (word_of (mask_of (2 ^ s)) p.0 p.1, bit_of (2 ^ s) (mask_of (2 ^ s)) p.0 p.1)

abbrev Inside : ℕ × ℕ → Type 0
Inside p = (p.0 < width) × (p.1 < width)

module _ (s : ℕ) (l : s < 6) (i k : ℕ) (li : i < width) (lk : k < width) where
  abbrev mask : ℕ
  mask = mask_of (2 ^ s)

  word_inside : word_of mask i k < width
  unfolding word_of
  word_inside = by_test (λ x. x < width) (bit mask k) (i / 2) (i / 2 + 32) (λ e. omega arith) (λ e. omega arith)

  bit_inside : bit_of (2 ^ s) mask i k < width
  unfolding bit_of
  bit_inside =
      by_test (λ x. x < width) (eqb (i % 2) 0) (cond (bit mask k) k (k - 2 ^ s)) (cond (bit mask k) (2 ^ s + k) k)
      (λ z. by_test (λ x. x < width) (bit mask k) k (k - 2 ^ s) (λ e. lk) (λ e. omega arith))
      (λ z. by_test (λ x. x < width) (bit mask k) (2 ^ s + k) k (λ e. ((masks s l).first k lk e).0) (λ e. lk))

source_inside : (s : ℕ) → s < 6 → (p : ℕ × ℕ) → Inside p → Inside (source s p)
unfolding source
source_inside s l (i, k) (li, lk) = (word_inside s l i k li lk, bit_inside s l i k li lk)

abbrev at : List ℕ → ℕ × ℕ → Bool
at words p = bit (get_or words p.0 0) p.1

-- one round back
back : (from to : List ℕ) (s : ℕ) → Exchanged (2 ^ s) (mask_of (2 ^ s)) from to
    → (p : ℕ × ℕ) → Inside p → at to p ≡ at from (source s p)
unfolding source
back from to s h (i, k) (li, lk) = h i li k lk

abbrev origin : ℕ × ℕ → ℕ × ℕ
origin p = source 5 (source 4 (source 3 (source 2 (source 1 (source 0 p)))))

-- computed for each of the 4096 bits
mirrored : (i : ℕ) → i < width → (k : ℕ) → k < width → ((origin (i, k)).0 ≡ k) × ((origin (i, k)).1 ≡ i)
unfolding bit all word_of bit_of source
mirrored = (every width (λ i. every width λ k. eq (origin (i, k)).0 k and eq (origin (i, k)).1 i)).yes refl

abbrev pub Transposed : List ℕ → List ℕ → Type 0
Transposed from to = (i k : ℕ) → i < width → k < width → bit (get_or to i 0) k ≡ bit (get_or from k 0) i

pub transposed : (a b c d e f g : List ℕ)
    → Exchanged 32 (mask_of 32) a b → Exchanged 16 (mask_of 16) b c → Exchanged 8 (mask_of 8) c d
    → Exchanged 4 (mask_of 4) d e → Exchanged 2 (mask_of 2) e f → Exchanged 1 (mask_of 1) f g → Transposed a g
transposed a b c d e f g r5 r4 r3 r2 r1 r0 i k li lk =
    let h1 = source_inside 0 (omega arith) (i, k) (li, lk) in
    let h2 = source_inside 1 (omega arith) _ h1 in
    let h3 = source_inside 2 (omega arith) _ h2 in
    let h4 = source_inside 3 (omega arith) _ h3 in
    let h5 = source_inside 4 (omega arith) _ h4 in
    let (word, place) = mirrored i li k lk in
    back f g 0 r0 (i, k) (li, lk)
    ∙ back e f 1 r1 _ h1
    ∙ back d e 2 r2 _ h2
    ∙ back c d 3 r3 _ h3
    ∙ back b c 4 r4 _ h4
    ∙ back a b 5 r5 _ h5
    ∙ ap (λ (x : ℕ). bit (get_or a x 0) (origin (i, k)).1) word
    ∙ ap (bit (get_or a k 0)) place
