-- Why no sum of jobs put one after the other is above their end, whatever their order: a job that is put behind the others adds its length to
-- each sum that it joins, and to the end.
use Rattle.std.proofs.lemmas.Bool.{not-true}
use Rattle.std.specs.Prelude.{◌≡◌, refl, Bool, true, false, not, ◌&&◌, List, ◌≢◌, ◌⊎◌, ℕ, zero, suc, ◌^◌, ◌<◌, ℤ, pos, ◌+ℤ◌, ◌≤ℤ◌}
use Rattle.std.proofs.Common.{sym, ap, ◌∙◌, inl, inr}
use Rattle.std.proofs.Math.Option.{none}
use Rattle.std.specs.Int.Signed.{lt_z}
use Rattle.ground_sets.specs.Bit.{bit, without}
use Rattle.ground_sets.specs.BitLaws.{bit_zero}
use Rattle.ground_walks.specs.Walk.{without_other}
use Rattle.ground_arithmetic.specs.Bools.{refuted, by_test, and_parts}
use Rattle.ground_arithmetic.specs.Linear.{whole, plus}
use Rattle.ground_arithmetic.specs.Sum.{sum, total, total_member}
use Rattle.ground_arithmetic.specs.Time.{Moderate, greater, greater_left, greater_right}
use Rattle.paper_board.specs.Paper.View.{Side}
use Rattle.paper_board.specs.Paper.Limits.{job_limit, first_minute}
use Rattle.paper_board.specs.BoardTests.BoundTime.{turned_time}
use Rattle.engine_sums.specs.Sums.{bound_at, length_at, Times, Lengths, load, Sum, Exceeds}
use Rattle.engine_sums.specs.SumLaws.{load_range}
use Rattle.engine_sums.specs.TotalWithout.{total_without}

-- Of the jobs of the set that are not `left` no sum is above the end: x, no greater than the bound of each of some of these, with their lengths
-- is no more.
pub record Sequenced (s : Side) (times lengths : List ℤ) (set left : ℕ) (end : ℤ) : Type 0 where
  pub under : (S : ℕ → Bool) (x : ℤ) (j : ℕ) → S j ≡ true
      → ((k : ℕ) → S k ≡ true → (bit set k ≡ true) × (bit left k ≡ false) × (x ≤ℤ bound_at s times k))
      → (x +ℤ total job_limit S (length_at lengths)) ≤ℤ end

-- an end that stays within 500000 minutes and 64 lengths of 10000 when the lengths of all that is left are added
pub record EndInRange (lengths : List ℤ) (left : ℕ) (end : ℤ) : Type 0 where
  pub low : first_minute ≤ℤ end
  pub high : (end +ℤ load lengths left) ≤ℤ pos 1140000

module _ {lengths : List ℤ} (work : Lengths lengths) where
  pub none_in_range : (set : ℕ) → EndInRange lengths set first_minute
  none_in_range set =
      let (_, most) = load_range work (bit set) in
      record { low = omega whole; high = omega (whole, plus first_minute (load lengths set)) }

  pub in_range_moderate : {left : ℕ} {end : ℤ} → EndInRange lengths left end → Moderate end
  in_range_moderate {left} {end} h =
      let (least, _) = load_range work (bit left) in
      (omega (whole, h.low), omega (whole, h.high, plus end (load lengths left)))

pub greater_moderate : {a b : ℤ} → Moderate a → Moderate b → Moderate (greater a b)
greater_moderate {a} {b} l r = by_test Moderate (lt_z a b) b a (λ e. r) (λ e. l)

module _ {s : Side} {times lengths : List ℤ} where
  pub none_sequenced : (set : ℕ) → Sequenced s times lengths set set first_minute
  none_sequenced set = record { under = λ S x j e h. let (member, out, _) = h j e in absurd (refuted out member) }

  pub all_sequenced : {set left : ℕ} {end : ℤ} → Sequenced s times lengths set left end → left ≡ 0 → Exceeds (Sum s times lengths set) end none
  all_sequenced {set} {left} {end} p empty z q =
      let all = p.under q.set (bound_at s times q.first) q.first q.member
      λ k e. (q.inside k e, ap (λ w. bit w k) empty ∙ bit_zero k, q.least k e) in
      omega (whole, q.is, all)

-- a set has a member, or nothing adds up
member_or_none : (n : ℕ) (S : ℕ → Bool) (f : ℕ → ℤ) → ((j : ℕ) × (S j ≡ true)) ⊎ (total n S f ≡ pos 0)
unfolding sum
member_or_none zero S f = inr refl
member_or_none (suc n) S f = go (S n) refl (member_or_none n S f)
  where
    go : (t : Bool) → S n ≡ t → ((j : ℕ) × (S j ≡ true)) ⊎ (total n S f ≡ pos 0) → ((j : ℕ) × (S j ≡ true)) ⊎ (total (suc n) S f ≡ pos 0)
    go true e ih = inl (n, e)
    go false e (inl member) = inl member
    go false e (inr nothing) = inr (rw e (omega (whole, nothing, plus (total n S f) (pos 0))))

-- the end with job k put behind the others
abbrev end_with : Side → List ℤ → List ℤ → ℕ → ℤ → ℤ
end_with s times lengths k end = greater end (bound_at s times k) +ℤ length_at lengths k

-- job k, of those that are left, put behind the others
module _ (s : Side) {times lengths : List ℤ} (hours : Times times) (work : Lengths lengths) {left k : ℕ} (end : ℤ) (fits : left < 2 ^ job_limit)
    (width : k < job_limit) (member : bit left k ≡ true) where
  pub append_in_range : EndInRange lengths left end → EndInRange lengths (without job_limit left k) (end_with s times lengths k end)
  append_in_range h =
      let length = length_at lengths k in
      let b = bound_at s times k in
      let less = load lengths (without job_limit left k) in
      let time = turned_time s _ (hours.time k) in
      let (_, most) = load_range work (bit left) in
      let fewer = total_without job_limit left k fits width member (length_at lengths) in
      record {
        low = omega (whole, h.low, greater_left end b, work.low k, plus (greater end b) length);
        high = by_test (λ z. ((z +ℤ length) +ℤ less) ≤ℤ pos 1140000) (lt_z end b) b end
            (λ e. omega (whole, fewer, most, time.high, plus b length, plus (b +ℤ length) less, plus length less))
            (λ e. omega (whole, fewer, h.high, plus end (load lengths left), plus end length, plus (end +ℤ length) less, plus length less));
      }

  pub append_sequenced : (set : ℕ) → Sequenced s times lengths set left end → Sequenced s times lengths set (without job_limit left k) (end_with s times lengths k end)
  append_sequenced set p = record { under = λ S x j e h. with_or_without S x j e h (S k) refl }
    where
      length : ℤ
      length = length_at lengths k

      b : ℤ
      b = bound_at s times k

      Passed : (ℕ → Bool) → ℤ → ℕ → Type 0
      Passed S x w = (i : ℕ) → S i ≡ true → (bit set i ≡ true) × (bit w i ≡ false) × (x ≤ℤ bound_at s times i)

      still_passed : (S : ℕ → Bool) (x : ℤ) → Passed S x (without job_limit left k) → (i : ℕ) → i ≢ k → S i ≡ true → bit left i ≡ false
      still_passed S x h i ne e = let (_, out, _) = h i e in sym (without_other job_limit left k fits width i ne) ∙ out

      -- what joins job k in a set, and is not left
      others : (ℕ → Bool) → ℕ → Bool
      others S i = S i && not (bit left i)

      unchanged : (S : ℕ → Bool) (x : ℤ) → Passed S x (without job_limit left k) → (i : ℕ) → i ≢ k → others S i ≡ S i
      unchanged S x h i ne = at (S i) refl
        where
          at : (t : Bool) → S i ≡ t → others S i ≡ S i
          at true e = rw (e, still_passed S x h i ne e)
          at false e = rw e

      joined : (S : ℕ → Bool) (x : ℤ) → Passed S x (without job_limit left k) → x ≤ℤ b
          → ((j : ℕ) × (others S j ≡ true)) ⊎ (total job_limit (others S) (length_at lengths) ≡ pos 0)
          → (x +ℤ total job_limit (others S) (length_at lengths)) ≤ℤ greater end b
      joined S x h low (inl (j, e)) =
          let passed = p.under (others S) x j e λ i m.
          let (in-it, kept) = and_parts (S i) (not (bit left i)) m in
          let (inside, _, under) = h i in-it in
          (inside, not-true (bit left i) kept, under) in
          omega (whole, passed, greater_left end b)
      joined S x h low (inr nothing) = omega (whole, nothing, low, greater_right end b, plus x (total job_limit (others S) (length_at lengths)))

      with_or_without : (S : ℕ → Bool) (x : ℤ) (j : ℕ) → S j ≡ true → Passed S x (without job_limit left k) → (t : Bool) → S k ≡ t
          → (x +ℤ total job_limit S (length_at lengths)) ≤ℤ end_with s times lengths k end
      with_or_without S x j e h false out =
          let passed = p.under S x j e λ i m.
          let (inside, _, low) = h i m in
          let ne : i ≢ k = λ same. refuted out (sym (ap S same) ∙ m) in
          (inside, still_passed S x h i ne m, low) in
          omega (whole, passed, greater_left end b, work.low k, plus (greater end b) length)
      with_or_without S x j e h true in-it =
          let (_, _, low) = h k in-it in
          let rest = total job_limit (others S) (length_at lengths) in
          let all = total_member job_limit S (others S) (length_at lengths) k width in-it (rw (in-it, member)) (unchanged S x h) in
          let under = joined S x h low (member_or_none job_limit (others S) (length_at lengths)) in
          omega (whole, all, under, plus x (total job_limit S (length_at lengths)), plus x rest, plus length rest, plus (greater end b) length)
