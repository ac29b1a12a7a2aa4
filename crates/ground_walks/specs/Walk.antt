-- Walking a set by its least member: that the code's count of trailing zeros is the least member, that one less than the word has it no more,
-- and what is left once a member is taken out. A walk goes on until nothing is left. From the other end: that the count of leading zeros
-- tells the greatest member. Assumes nothing.
use Rattle.std.specs.Prelude.{ℕ, zero, suc, ◌-◌, ◌/◌, ◌%◌, ◌^◌, ◌<◌, Bool, true, false, not, ◌&&◌, ◌≡◌, refl, ◌≢◌, eqb}
use Rattle.std.proofs.Math.Bool.{and-true, and-false, and_self}
use Rattle.std.proofs.Common.{true≢false, sym, ap, ◌∙◌, pow-suc, arith, eq-eqb, ne_eqb}
use Rattle.std.proofs.Math.Path.{subst⁻¹}
use Rattle.std.proofs.Math.Decide.{dec_lt, ℕ_discrete}
use Rattle.std.specs.Int.Count.{count_leading_zeros, count_trailing_zeros, under}
use Rattle.std.proofs.lemmas.Nat.{leading_top}
use Rattle.std.proofs.Math.Dec.{eqb-zero-suc, eqb-suc-suc}
use Rattle.ground_sets.specs.Bit.{bit, intersection, without}
use Rattle.ground_walks.specs.Takes.{Lowest, Highest, Next, Takes}
use Rattle.ground_sets.specs.BitLaws.{bit_low, bit_odd, bit_even, bit_half, bit_high, bit_top, bit_zero, bit_ext, bit_intersection, bit_without, part_below}

pub trailing_lowest : (n w : ℕ) → w ≢ 0 → w < 2 ^ n → Lowest n w (count_trailing_zeros n w)
unfolding count_trailing_zeros
trailing_lowest zero w h l = absurd (h (omega arith))
trailing_lowest (suc n) w h l = go (w % 2) refl λ e. trailing_lowest n (w / 2) e (omega (arith, pow-suc 2 n))
  where
    later : w % 2 ≡ 0 → (k : ℕ) → Lowest n (w / 2) k → (j : ℕ) → j < suc k → bit w j ≡ false
    later e k r zero b = bit_low w ∙ ap (λ (x : ℕ). eqb x 1) e
    later e k r (suc j) b = sym (bit_half w j) ∙ r.least j (omega arith)

    go : (d : ℕ) → w % 2 ≡ d → (w / 2 ≢ 0 → Lowest n (w / 2) (count_trailing_zeros n (w / 2))) → Lowest (suc n) w (under d (count_trailing_zeros n (w / 2)))
    go zero e rest =
        let r = rest λ z. h (omega arith) in
        record {
          width = omega (arith, r.width);
          member = sym (bit_half w (count_trailing_zeros n (w / 2))) ∙ r.member;
          least = later e (count_trailing_zeros n (w / 2)) r;
        }
    go (suc d) e rest =
        let odd : w % 2 ≡ 1 = omega arith in
        record {
          width = omega arith;
          member = bit_low w ∙ ap (λ (x : ℕ). eqb x 1) odd;
          least = λ j b. absurd (omega arith);
        }

pub leading_highest : (n w : ℕ) → w ≢ 0 → w < 2 ^ n → Highest n w (n - 1 - count_leading_zeros n w)
leading_highest n w h l =
    let (j, zeros, low, high) = leading_top n w (omega (arith, h)) l in
    let place : n - 1 - count_leading_zeros n w ≡ j = omega (arith, zeros) in
    subst⁻¹ (Highest n w) place (record { width = omega (arith, zeros); member = bit_top w j low high; greatest = λ k b. bit_high (suc j) w k high b })

next_width : (n : ℕ) (downward : Bool) (w k : ℕ) → Next n downward w k → k < n
unfolding Next
next_width n false w k at = at.width
next_width n true w k at = at.width

next_member : (n : ℕ) (downward : Bool) (w k : ℕ) → Next n downward w k → bit w k ≡ true
unfolding Next
next_member n false w k at = at.member
next_member n true w k at = at.member

-- of a word's members, one less than the word has all but the least
less_bit : (k w : ℕ) → bit w k ≡ true → ((j : ℕ) → j < k → bit w j ≡ false) → (j : ℕ) → (bit w j && bit (w - 1) j) ≡ (bit w j && not (eqb k j))
less_bit zero w e least zero =
    let even : (w - 1) % 2 ≡ 0 = omega (arith, bit_odd w e) in
    rw (bit_low (w - 1), even)
less_bit zero w e least (suc j) =
    let half : (w - 1) / 2 ≡ w / 2 = omega (arith, bit_odd w e) in
    let same : bit (w - 1) (suc j) ≡ bit w (suc j) = sym (bit_half (w - 1) j) ∙ ap (λ (x : ℕ). bit x j) half ∙ bit_half w j in
    rw (same, eqb-zero-suc j, and-true (bit w (suc j))) (and_self (bit w (suc j)))
less_bit (suc k) w e least zero = rw (least 0 (omega arith))
less_bit (suc k) w e least (suc j) =
    let half : (w - 1) / 2 ≡ w / 2 - 1 = omega (arith, bit_even w (least 0 (omega arith))) in
    rw (eqb-suc-suc k j, ← bit_half w j, ← bit_half (w - 1) j, half)
    (less_bit k (w / 2) (bit_half w k ∙ e) (λ x b. bit_half w x ∙ least (suc x) (omega (arith, b))) j)

module _ (n w k : ℕ) (fits : w < 2 ^ n) (width : k < n) where
  -- the member taken out is out
  pub without_self : bit (without n w k) k ≡ false
  without_self = bit_without n w k k fits width ∙ rw (eq-eqb k k refl) (and-false (bit w k))

  -- the others stay
  pub without_other : (j : ℕ) → j ≢ k → bit (without n w k) j ≡ bit w j
  without_other j ne = bit_without n w k j fits width ∙ rw (ne_eqb k j (λ e. ne (sym e))) (and-true (bit w j))

  -- nothing comes in
  pub without_inside : (j : ℕ) → bit (without n w k) j ≡ true → bit w j ≡ true
  without_inside j e = go (ℕ_discrete j k)
    where
      go : Dec (j ≡ k) → bit w j ≡ true
      go (yes s) = absurd (true≢false (sym e ∙ ap (bit (without n w k)) s ∙ without_self))
      go (no ne) = sym (without_other j ne) ∙ e

  -- so the word gets smaller, and a walk ends
  without_falls : bit w k ≡ true → without n w k < w
  without_falls e = part_below (without n w k) w k without_inside e λ still. true≢false (sym still ∙ without_self)

-- a word and one less than it share all but the least member
pub less_without : (n w k : ℕ) → w < 2 ^ n → Lowest n w k → intersection w (w - 1) ≡ without n w k
less_without n w k fits low =
    bit_ext (intersection w (w - 1)) (without n w k) λ j.
    bit_intersection w (w - 1) j ∙ less_bit k w low.member low.least j ∙ sym (bit_without n w k j fits low.width)

-- the next job of a walk taken out
pub takes : (n : ℕ) (downward : Bool) (w k rest : ℕ) → w < 2 ^ n → Next n downward w k → rest ≡ without n w k → Takes n downward w k rest
takes n downward w k rest fits next e =
    let width = next_width n downward w k next in
    let member = next_member n downward w k next in
    record {
      next = next;
      width = width;
      member = member;
      left = e;
      out = rw e (without_self n w k fits width);
      others = rw e (without_other n w k fits width);
      inside = rw e (without_inside n w k fits width);
      falls = rw e (without_falls n w k fits width member);
    }

-- a set has one least member, so it is the one that is taken
pub lowest_taken : {n w j k rest : ℕ} → Lowest n w j → Takes n false w k rest → Takes n false w j rest
unfolding Next
lowest_taken {n} {w} {j} {k} {rest} low taken = subst⁻¹ (λ x. Takes n false w x rest) (same (dec_lt j k) (dec_lt k j)) taken
  where
    above : (x y : ℕ) → Lowest n w x → Lowest n w y → x < y → ⊥
    above x y a b less = true≢false (sym a.member ∙ b.least x less)

    same : Dec (j < k) → Dec (k < j) → j ≡ k
    same (yes less) _ = absurd (above j k low taken.next less)
    same (no _) (yes less) = absurd (above k j taken.next low less)
    same (no a) (no b) = omega (arith, a, b)

-- what was shown at each number with A taken out so far, and at this one, is shown at each taken out now
pub taken_out : {n : ℕ} {downward : Bool} {w k rest : ℕ} → Takes n downward w k rest → (P A : ℕ → Type 0)
    → ((j : ℕ) → A j → bit w j ≡ false → P j) → P k → (j : ℕ) → A j → bit rest j ≡ false → P j
taken_out {k = k} taken P A before now j has-it out = go (ℕ_discrete j k)
  where
    go : Dec (j ≡ k) → P j
    go (yes e) = subst⁻¹ P e now
    go (no ne) = before j has-it (sym (taken.others j ne) ∙ out)

-- A walk over the numbers that have P: those that are left to be visited have it, and at all the others Q has been shown.
pub record Left (P Q : ℕ → Type 0) (left : ℕ) : Type 0 where
  pub member : (x : ℕ) → bit left x ≡ true → P x
  pub done : (x : ℕ) → P x → bit left x ≡ false → Q x

pub visited : {n : ℕ} {downward : Bool} {P Q : ℕ → Type 0} {left k rest : ℕ} → Left P Q left → Takes n downward left k rest → Q k → Left P Q rest
visited {P = P} {Q = Q} h taken q = record { member = λ x e. h.member x (taken.inside x e); done = taken_out taken Q P h.done q }

pub none_left : {P Q : ℕ → Type 0} → Left P Q 0 → (x : ℕ) → P x → Q x
none_left h x p = h.done x p (bit_zero x)
