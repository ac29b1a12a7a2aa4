-- Whether the two sides that keep each arc agree: the words before are the transpose of the words after, bit by bit.
use Rattle.std.specs.Prelude.{◌≡◌, refl, Bool, List, [], ◌∷◌, ℕ, ◌+◌, ◌^◌, ◌<◌, eqb, get_or, fold, length}
use Rattle.std.specs.List.{zip}
use Rattle.std.proofs.Common.{sym, ap, ◌∙◌, arith, below_more, eq-eqb, eqb-true, ext_get_or}
use Rattle.std.proofs.Math.Decide.{dec_lt}
use Rattle.std.specs.Int.Bits.{bit_or, bit_xor, xor_self}
use Rattle.ground_sets.specs.Bit.{bit, width, union}
use Rattle.ground_sets.specs.BitLaws.{bit_ext, bit_high, union_none, xor_none}
use Rattle.paper_board.specs.BoardTests.Decides.{Decides, restated, eq}
use Rattle.engine_transposition.specs.Transpose.{Transposed}

abbrev pub SameBits : ℕ → ℕ → Type 0
SameBits a b = (k : ℕ) → k < width → bit a k ≡ bit b k

abbrev pub SameWords : List ℕ → List ℕ → Type 0
SameWords a b = (i : ℕ) → i < width → SameBits (get_or a i 0) (get_or b i 0)

-- the bits in which two words at the same place differ, of all places together
abbrev pub differences : List ℕ → List ℕ → ℕ
differences a b = fold (λ found p. bit_or found (bit_xor p.0 p.1)) 0 (zip a b)

-- the arc from i to k stands in the word before k where it stands in the word after i
abbrev pub Agree : List ℕ → List ℕ → Type 0
Agree after before = (i k : ℕ) → i < width → k < width → bit (get_or before k 0) i ≡ bit (get_or after i 0) k

-- two words with the same bits are one
same_word : (a b : ℕ) → a < 2 ^ width → b < 2 ^ width → SameBits a b → a ≡ b
same_word a b fa fb s = bit_ext a b λ k. go k (dec_lt k width)
  where
    -- past the width both words have no bits
    go : (k : ℕ) → Dec (k < width) → bit a k ≡ bit b k
    go k (yes l) = s k l
    go k (no l) = bit_high width a k fa (omega arith) ∙ sym (bit_high width b k fb (omega arith))

pub decides_same : (found a b : ℕ) → a < 2 ^ width → b < 2 ^ width
    → Decides (eqb (bit_or found (bit_xor a b)) 0) ((found ≡ 0) × SameBits a b)
unfolding union
decides_same found a b fa fb =
    restated (eq (bit_or found (bit_xor a b)) 0)
    (λ e. let (z, d) = union_none found (bit_xor a b) e in (z, λ k l. ap (λ (x : ℕ). bit x k) (xor_none a b d)))
    (λ (z, s). rw (z, same_word a b fa fb s, xor_self b))

-- one word more
pub compared : (a b : List ℕ) (found i : ℕ) {t : Bool}
    → Decides (eqb found 0) ((j : ℕ) → j < i → SameBits (get_or a j 0) (get_or b j 0))
    → Decides t ((found ≡ 0) × SameBits (get_or a i 0) (get_or b i 0))
    → Decides t ((j : ℕ) → j < i + 1 → SameBits (get_or a j 0) (get_or b j 0))
compared a b found i before d =
    restated d
    (λ h. below_more _ _ (before.yes (eq-eqb found 0 h.0)) h.1)
    (λ h. (eqb-true found 0 (before.show λ j l. h j (omega arith)), h i (omega arith)))

-- the transpose of one side is the other
pub agree_same : (after before transposed : List ℕ) {t : Bool} → Transposed after transposed
    → Decides t (SameWords transposed before) → Decides t (Agree after before)
agree_same after before transposed h d =
    restated d (λ s i k li lk. sym (s k lk i li) ∙ h k i lk li) (λ s i li k lk. h i k li lk ∙ sym (s k i lk li))

-- no bits differ where the words are the same, and the other way round
differ : (found : ℕ) (a b : List ℕ) → length a ≡ length b
    → Decides (eqb (fold (λ f p. bit_or f (bit_xor p.0 p.1)) found (zip a b)) 0) ((found ≡ 0) × (a ≡ b))
unfolding union
differ found [] [] e = restated (eq found 0) (λ z. (z, refl)) (λ h. h.0)
differ found [] (y ∷ b) e = absurd (omega (arith, e))
differ found (x ∷ a) [] e = absurd (omega (arith, e))
differ found (x ∷ a) (y ∷ b) e =
    restated (differ (bit_or found (bit_xor x y)) a b (omega (arith, e)))
    (λ h. let (z, d) = union_none found (bit_xor x y) h.0 in (z, ap (λ w. w ∷ a) (xor_none x y d) ∙ ap (λ l. y ∷ l) h.1))
    (λ h. let (z, s) = h in let w : x ≡ y = cc in let l : a ≡ b = cc in (rw (z, w, xor_self y), l))

-- words of 64 bits
abbrev pub Narrow : List ℕ → Type 0
Narrow words = (length words ≡ width) × ((i : ℕ) → get_or words i 0 < 2 ^ width)

decides_words : (a b : List ℕ) → Narrow a → Narrow b → Decides (eqb (differences a b) 0) (SameWords a b)
decides_words a b (long, low) (size, narrow) =
    restated (differ 0 a b (long ∙ sym size))
    (λ h i l k m. ap (λ (ws : List ℕ). bit (get_or ws i 0) k) h.1)
    (λ s. (refl, ext_get_or 0 a b (long ∙ sym size) λ i l. same_word (get_or a i 0) (get_or b i 0) (low i) (narrow i) (s i (omega (arith, long)))))

-- the test of the code
pub differences_agree : (after before transposed : List ℕ) → Transposed after transposed → Narrow transposed → Narrow before
    → Decides (eqb (differences transposed before) 0) (Agree after before)
differences_agree after before transposed h narrow fits = agree_same after before transposed h (decides_words transposed before narrow fits)
