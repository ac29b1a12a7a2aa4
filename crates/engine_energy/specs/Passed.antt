-- A walk over a set that keeps the least bound of the jobs it has passed: what stays true when a job is passed or struck, and
-- that at the end of the walk this is the least bound of the set.
use Rattle.std.specs.Prelude.{◌≡◌, refl, Bool, true, false, List, ◌≢◌, ◌⊎◌, ℕ, ◌^◌, ◌<◌, ℤ, ◌≤ℤ◌}
use Rattle.std.proofs.Common.{sym, ap, ◌∙◌, inl, inr}
use Rattle.std.specs.Int.Count.{count_trailing_zeros}
use Rattle.std.specs.Int.Signed.{lt_z}
use Rattle.ground_sets.specs.Bit.{bit, without}
use Rattle.ground_walks.specs.Takes.{Takes}
use Rattle.ground_sets.specs.BitLaws.{bit_zero, without_lt}
use Rattle.ground_walks.specs.Walk.{trailing_lowest, without_self, without_other, without_inside, taken_out}
use Rattle.ground_arithmetic.specs.Bools.{refuted, by_test}
use Rattle.ground_arithmetic.specs.Linear.{whole}
use Rattle.ground_arithmetic.specs.Time.{lesser, lesser_left, lesser_right}
use Rattle.paper_board.specs.Paper.View.{Side}
use Rattle.paper_board.specs.Paper.Limits.{job_limit, last_minute}
use Rattle.paper_board.specs.BoardTests.BoundTime.{turned_time}
use Rattle.engine_sums.specs.Sums.{bound_at, Times, LeastBound}

-- z is the bound of a job of the set w that was passed, or still the last minute
abbrev Attained : Side → List ℤ → ℕ → ℕ → ℤ → Type 0
Attained s times w left z = (z ≡ last_minute) ⊎ ((x : ℕ) × (bit w x ≡ true) × (bit left x ≡ false) × (z ≡ bound_at s times x))

-- The jobs `left` of the set w are still ahead, and `low` is the least bound of the others, or the last minute.
pub record Passed (s : Side) (times : List ℤ) (w left : ℕ) (low : ℤ) : Type 0 where
  pub fits : w < 2 ^ job_limit
  pub inside : (j : ℕ) → bit left j ≡ true → bit w j ≡ true
  pub least : (j : ℕ) → bit w j ≡ true → bit left j ≡ false → low ≤ℤ bound_at s times j
  pub attained : Attained s times w left low

pub none_passed : (s : Side) (times : List ℤ) (w : ℕ) → w < 2 ^ job_limit → Passed s times w w last_minute
none_passed s times w fits =
    record { fits = fits; inside = λ j e. e; least = λ j e out. absurd (refuted out e); attained = inl refl }

-- at the end of the walk
pub all_passed : {s : Side} {times : List ℤ} {w left : ℕ} {low : ℤ} → Times times → Passed s times w left low → left ≡ 0 → w ≢ 0
    → LeastBound s times w low
all_passed {s} {times} {w} {left} {low} hours p empty some-job = go p.attained
  where
    below : (k : ℕ) → bit w k ≡ true → low ≤ℤ bound_at s times k
    below k e = p.least k e (ap (λ w. bit w k) empty ∙ bit_zero k)

    go : Attained s times w left low → LeastBound s times w low
    go (inr (x, e, out, same)) = record { first = x; member = e; is = same; least = below }
    go (inl last) =
        let k = count_trailing_zeros job_limit w in
        let first = trailing_lowest job_limit w some-job p.fits in
        record {
          first = k;
          member = first.member;
          is = omega (whole, last, (turned_time s _ (hours.time k)).high, below k first.member);
          least = below;
        }

-- job k of those ahead is taken, and the rest are still ahead
module _ {s : Side} {times : List ℤ} {w left k rest : ℕ} {low : ℤ} {downward : Bool} (p : Passed s times w left low) (taken : Takes job_limit downward left k rest) where
  -- a job that was passed before is another than k
  still : (next : ℕ) → ((j : ℕ) → j ≢ k → bit next j ≡ bit w j) → Attained s times w left low → Attained s times next rest low
  still next others (inl last) = inl last
  still next others (inr (x, i, out, same)) =
      let ne : x ≢ k = λ d. refuted out (ap (bit left) d ∙ taken.member) in
      inr (x, others x ne ∙ i, taken.others x ne ∙ out, same)

  -- job k is passed
  pub pass : Passed s times w rest (lesser low (bound_at s times k))
  pass =
      let b = bound_at s times k in
      record {
        fits = p.fits;
        inside = λ j i. p.inside j (taken.inside j i);
        least = taken_out taken (λ j. lesser low b ≤ℤ bound_at s times j) (λ j. bit w j ≡ true)
            (λ j i out. omega (whole, p.least j i out, lesser_left low b)) (lesser_right low b);
        attained = by_test (Attained s times w rest) (lt_z low b) low b (λ d. still w (λ j ne. refl) p.attained)
            (λ d. inr (k, p.inside k taken.member, taken.out, refl));
      }

  -- job k is struck
  abbrev kept : ℕ
  kept = without job_limit w k

  -- what was shown at each job passed is shown at each that is kept
  pub kept_passed : (P : ℕ → Type 0) → ((j : ℕ) → bit w j ≡ true → bit left j ≡ false → P j)
      → (j : ℕ) → bit kept j ≡ true → bit rest j ≡ false → P j
  kept_passed P before j i out =
      let ne : j ≢ k = λ same. refuted (ap (bit kept) same ∙ without_self job_limit w k p.fits taken.width) i in
      before j (without_inside job_limit w k p.fits taken.width j i) (sym (taken.others j ne) ∙ out)

  pub pass_struck : Passed s times kept rest low
  pass_struck =
      let others = without_other job_limit w k p.fits taken.width in
      record {
        fits = without_lt job_limit w k p.fits;
        inside = λ j i.
            let ne : j ≢ k = λ same. refuted (ap (bit rest) same ∙ taken.out) i in
            others j ne ∙ p.inside j (taken.inside j i);
        least = kept_passed (λ j. low ≤ℤ bound_at s times j) p.least;
        attained = still kept others p.attained;
      }
