-- What a place of a board holds by itself, as the code tests it: its row, and the words of its arcs.
use Rattle.std.specs.Prelude.{◌≡◌, refl, ◌≢◌, Bool, not, ◌&&◌, ℕ, ◌<◌, ◌≤◌, ◌^◌, eqb, ℤ, pos, get_or}
use Rattle.std.proofs.Common.{sym, ap, ◌∙◌, arith, eq-eqb}
use Rattle.std.proofs.Math.Bool.{true, false}
use Rattle.std.proofs.Math.Decide.{dec_lt}
use Rattle.ground_sets.specs.Bit.{bit, width, union}
use Rattle.ground_sets.specs.BitLaws.{bit_zero, bit_high, bit_ext, union_none}
use Rattle.ground_arithmetic.specs.Bools.{refuted, is_false}
use Rattle.ground_arithmetic.specs.Linear.{whole}
use Rattle.paper_board.specs.declared.Board.{Board}
use Rattle.paper_board.specs.Paper.View.{Row, row_of}
use Rattle.paper_board.specs.Paper.Limits.{zero_row, RowLimits}
use Rattle.paper_board.specs.Paper.Tests.{between, is_length, is_time}
use Rattle.paper_board.specs.BoardTests.WithinLimits.{is_zero, is_zero_row, fits}
use Rattle.paper_board.specs.BoardTests.Decides.{Decides, restated, retested, same_decision, holds, negated, ◌and◌, eq}
use Rattle.paper_board.proofs.LimitsDecided.{decides_between, decides_zero, decides_fits, decides_zero_row}

-- ---- rows

-- a test of 0 is one of a range
pub zero_between : (z : ℤ) → between (pos 0) (pos 0) z ≡ is_zero z
zero_between z =
    same_decision (restated (decides_between (pos 0) (pos 0) z) (λ h. omega whole) (λ h. omega whole)) (decides_zero z)

pub is_zero_yes : (z : ℤ) → z ≡ pos 0 → is_zero z ≡ true
is_zero_yes z = (decides_zero z).show

pub is_zero_no : (z : ℤ) → (z ≡ pos 0 → ⊥) → is_zero z ≡ false
is_zero_no z ne = is_false (is_zero z) λ e. ne ((decides_zero z).yes e)

pub blank_limits : (n k : ℕ) (r : Row) → n ≤ k → r ≡ zero_row 0 → RowLimits n k r
blank_limits n k r l e =
    let mark = ap (λ (x : Row). x.mark) e in
    record { mark = omega arith; live = λ x. absurd (omega arith); invalid = λ x. absurd (omega arith); blank = λ x. e }

module _ (n k : ℕ) (r : Row) where
  -- what the tests of a row's numbers decide
  zeros : Decides (is_zero r.length && is_zero r.earliest && is_zero r.latest) (r ≡ zero_row r.mark)
  unfolding is_zero_row
  zeros = rw (eq-eqb r.mark r.mark refl) at (decides_zero_row r.mark r)

  row_blank : n ≤ k → r.mark ≡ 0 → Decides (is_zero r.length && is_zero r.earliest && is_zero r.latest) (RowLimits n k r)
  row_blank p z =
      restated zeros
      (λ h. blank_limits n k r p (h ∙ ap zero_row z))
      (λ h. h.blank p ∙ ap zero_row (sym z))

  row_invalid : k < n → r.mark ≡ 2 → Decides (is_zero r.length && is_zero r.earliest && is_zero r.latest) (RowLimits n k r)
  row_invalid p z =
      restated zeros
      (λ h.
      record {
        mark = omega arith;
        live = λ x ne. absurd (ne z);
        invalid = λ x y. h ∙ ap zero_row z;
        blank = λ x. absurd (omega arith);
      })
      (λ h. h.invalid p z ∙ ap zero_row (sym z))

  row_live : k < n → r.mark < 2 → Decides (is_length r.length && is_time r.earliest && is_time r.latest) (RowLimits n k r)
  unfolding fits
  row_live p z =
      restated (decides_fits r)
      (λ h.
      record {
        mark = omega arith;
        live = λ x y. h;
        invalid = λ x y. absurd (omega arith);
        blank = λ x. absurd (omega arith);
      })
      (λ h. h.live p (λ y. omega arith))

-- ---- words

-- The members of the words of place k: the place is a live job's, and no arc leads from it to itself.
abbrev PlaceArcs : ℕ → ℕ → ℕ → ℕ → ℕ → Type 0
PlaceArcs n k m after before =
    ((x : ℕ) → bit after x ≡ true → (k < n) × (m ≢ 2) × (x < width) × (k ≢ x))
    × ((x : ℕ) → bit before x ≡ true → (k < n) × (m ≢ 2) × (x < width))

-- a member of a word is below its width
member_below : (n w x : ℕ) → w < 2 ^ n → bit w x ≡ true → x < n
member_below n w x l e = go (dec_lt x n)
  where
    go : Dec (x < n) → x < n
    go (yes h) = h
    go (no h) = absurd (refuted (bit_high n w x l (omega arith)) e)

module _ (n k m after before : ℕ) where
  decides_none : (k < n → m ≢ 2 → ⊥) → Decides (eqb (union after before) 0) (PlaceArcs n k m after before)
  unfolding union
  decides_none dead = restated (eq (union after before) 0) none λ (a, b).
      rw (empty after (λ x e. let (l, v, w, s) = a x e in dead l v), empty before (λ x e. let (l, v, w) = b x e in dead l v))
    where
      out : (word : ℕ) → word ≡ 0 → (x : ℕ) → bit word x ≡ true → ⊥
      out word z x e = refuted (bit_zero x) (rw z at e)

      none : union after before ≡ 0 → PlaceArcs n k m after before
      none e = let (a, b) = union_none after before e in (λ x h. absurd (out after a x h), λ x h. absurd (out before b x h))

      empty : (word : ℕ) → ((x : ℕ) → bit word x ≡ true → ⊥) → word ≡ 0
      empty word h = bit_ext word 0 λ x. is_false (bit word x) (h x) ∙ sym (bit_zero x)

  decides_own : k < n → m ≢ 2 → after < 2 ^ width → before < 2 ^ width → Decides (not (bit after k)) (PlaceArcs n k m after before)
  decides_own l v fa fb =
      restated (negated (holds (bit after k)))
      (λ own. (λ x e. (l, v, member_below width after x fa e, λ s. own (ap (bit after) s ∙ e)), λ x e. (l, v, member_below width before x fb e)))
      (λ (a, b) e. (a k e).3 refl)

-- ---- places

-- the tests of a place without a live job, and with one
abbrev pub is_zero_place : Board → ℕ → Bool
is_zero_place b k =
    let r = row_of b k in
    (is_zero r.length && is_zero r.earliest && is_zero r.latest) && eqb (union (get_or b.after k 0) (get_or b.before k 0)) 0

abbrev pub is_live_place : Board → ℕ → Bool
is_live_place b k =
    let r = row_of b k in
    (is_length r.length && is_time r.earliest && is_time r.latest) && not (bit (get_or b.after k 0) k)

abbrev pub Place : Board → ℕ → Type 0
Place b k = RowLimits b.jobs k (row_of b k) × PlaceArcs b.jobs k (row_of b k).mark (get_or b.after k 0) (get_or b.before k 0)

-- a place without a job, with an invalid job, and with a live one
module _ (b : Board) (k : ℕ) where
  abbrev r : Row
  r = row_of b k

  abbrev after : ℕ
  after = get_or b.after k 0

  abbrev before : ℕ
  before = get_or b.before k 0

  pub place_blank : {t : Bool} → t ≡ is_zero_place b k → b.jobs ≤ k → r.mark ≡ 0 → Decides t (Place b k)
  place_blank e p z = retested e (row_blank b.jobs k r p z and decides_none b.jobs k r.mark after before (λ x v. omega arith))

  pub place_invalid : {t : Bool} → t ≡ is_zero_place b k → k < b.jobs → r.mark ≡ 2 → Decides t (Place b k)
  place_invalid e p z = retested e (row_invalid b.jobs k r p z and decides_none b.jobs k r.mark after before (λ x v. v z))

  pub place_live : {t : Bool} → t ≡ is_live_place b k → after < 2 ^ width → before < 2 ^ width → k < b.jobs → r.mark < 2 → Decides t (Place b k)
  place_live e fa fb p z =
      retested e (row_live b.jobs k r p z and decides_own b.jobs k r.mark after before p (λ x. omega arith) fa fb)

pub ruleset zero_tests = (is_zero_yes, is_zero_no)

pub ruleset placing = (place_blank, place_invalid, place_live)
