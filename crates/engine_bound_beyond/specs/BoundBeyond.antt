-- The bound that the valid jobs beyond a job leave to it, over numbers and words: the sums of these jobs, or a last one of them with the few
-- that don't lie beyond it.
use Rattle.std.specs.Prelude.{◌≡◌, ◌≢◌, ◌⊎◌, true, List, ℕ, ◌<◌, ◌^◌, ℤ, get_or, ◌≤ℤ◌}
use Rattle.std.proofs.Common.{ap, ◌∙◌, subst, inl, inr}
use Rattle.std.proofs.Math.Option.{Option, none, some}
use Rattle.std.specs.Int.Signed.{lt_z}
use Rattle.ground_sets.specs.Bit.{bit, intersection, difference, without}
use Rattle.ground_sets.specs.BitLaws.{bit_zero, bit_difference, bit_without, without_lt}
use Rattle.ground_arithmetic.specs.Bools.{refuted, by_test}
use Rattle.ground_arithmetic.specs.Linear.{whole, plus}
use Rattle.paper_board.specs.Paper.View.{Side}
use Rattle.paper_board.specs.Paper.Limits.{job_limit}
use Rattle.paper_board.specs.BoardTests.Decides.{Decides, retested, ◌and◌, negated, holds, eq}
use Rattle.engine_sums.specs.Sums.{bound_at, end_at, load, Sum, Exceeds, over, EndsBy, Pushes}
use Rattle.engine_sums.specs.SumLaws.{load_none}
use Rattle.engine_sums.specs.Single.{single}

-- r has the jobs of the set w but k that are not in k's word
abbrev pub ApartSet : ℕ → ℕ → ℕ → ℕ → Type 0
ApartSet w k word r = (x : ℕ) → Decides (bit r x) (((bit w x ≡ true) × (k ≢ x)) × (bit word x ≡ true → ⊥))

-- The jobs of the set w lie beyond a last one, but for some that stand apart. With all of these the last one ends by the bound of job j, and
-- so do their own sums.
pub record LastUnder (s : Side) (times lengths : List ℤ) (beyond : List ℕ) (w j : ℕ) : Type 0 where
  pub last : ℕ
  pub member : bit w last ≡ true
  pub rest : ℕ
  pub apart : ApartSet w last (get_or beyond last 0) rest
  pub ends : EndsBy s times lengths last rest (bound_at s times j)

-- What an answer says of the jobs w beyond job j. A bound is a sum above j's own. Where there is none, no sum is above it, or the last
-- one's end is not: that suffices once it is known of the last one too (`SideSettled` of `engine_job_rules`).
abbrev pub Says : Side → List ℤ → List ℤ → List ℕ → ℕ → ℕ → Option ℤ → Type 0
Says s times lengths beyond w j none =
    ((z : ℤ) → Sum s times lengths w z → z ≤ℤ bound_at s times j) ⊎ LastUnder s times lengths beyond w j
Says s times lengths beyond w j (some z) = Pushes s times lengths w j (some z)

-- the valid jobs that lie beyond job j
abbrev pub pushing : List ℕ → ℕ → ℕ → ℕ
pushing beyond valids j = intersection valids (get_or beyond j 0)

abbrev pub BoundBeyond : Side → List ℤ → List ℤ → List ℕ → ℕ → ℕ → Option ℤ → Type 0
BoundBeyond s times lengths beyond valids j = Says s times lengths beyond (pushing beyond valids j) j

pub apart_is : (n w k word : ℕ) → w < 2 ^ n → word < 2 ^ n → k < n → ApartSet w k word (difference n (without n w k) word)
apart_is n w k word fw fo l x =
    retested (bit_difference n (without n w k) word x (without_lt n w k fw) fo)
    (retested (bit_without n w k x fw l) (holds (bit w x) and negated (eq k x)) and negated (holds (bit word x)))

-- what the code finds of the word w
module _ (s : Side) (times lengths : List ℤ) (beyond : List ℕ) (j w : ℕ) where
  none_there : w ≡ 0 → Says s times lengths beyond w j none
  none_there e = inl λ z p. absurd (refuted (ap (λ x. bit x p.first) e ∙ bit_zero p.first) (p.inside p.first p.member))

  module _ (k rest : ℕ) (place : k < job_limit) (member : bit w k ≡ true) (apart : ApartSet w k (get_or beyond k 0) rest) where
    -- the last one with those that stand apart
    pub last_ends_by : EndsBy s times lengths k rest (bound_at s times j) → Says s times lengths beyond w j none
    last_ends_by ends = inr (record { last = k; member = member; rest = rest; apart = apart; ends = ends })

    -- the last one alone, where none stands apart
    pub last_alone : rest ≡ 0 → Says s times lengths beyond w j (over (bound_at s times j) (end_at s times lengths k))
    last_alone none_Apart =
        let end = end_at s times lengths k in
        by_test (Says s times lengths beyond w j) (lt_z (bound_at s times j) end) (some end) none
        (λ e. (single s times lengths w k place member, omega whole))
        (λ e.
        last_ends_by
        (record {
          together = omega (whole, load_none lengths rest none_Apart, plus end (load lengths rest));
          sums = λ z p. absurd (no_member p.first (p.inside p.first p.member));
        }))
      where
        no_member : (x : ℕ) → bit rest x ≡ true → ⊥
        no_member x = refuted (ap (λ y. bit y x) none_Apart ∙ bit_zero x)

  -- all sums
  pub all_sums : (o : Option ℤ) → Exceeds (Sum s times lengths w) (bound_at s times j) o → Says s times lengths beyond w j o
  all_sums none h = inl h
  all_sums (some z) ((sum, _), above) = (sum, above)

-- where the word w holds these jobs
module _ (s : Side) (times lengths : List ℤ) (beyond : List ℕ) (valids j w : ℕ) (is : w ≡ pushing beyond valids j) where
  pub said : (o : Option ℤ) → Says s times lengths beyond w j o → BoundBeyond s times lengths beyond valids j o
  said o = subst (λ x. Says s times lengths beyond x j o) is

  pub none_beyond : w ≡ 0 → BoundBeyond s times lengths beyond valids j none
  none_beyond e = said none (none_there s times lengths beyond j w e)
