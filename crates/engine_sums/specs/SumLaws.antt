-- Why striking jobs finds the greatest sum: a set that gives more than the best is open, which is that all jobs with a bound as
-- great as its least one are still in play, so it lies among them and gives no more than its least bound and all their lengths.
use Rattle.std.specs.Prelude.{◌≡◌, refl, Bool, true, false, List, ◌≢◌, ◌⊎◌, ℕ, ◌^◌, ◌<◌, ℤ, pos, neg_ℤ, ◌+ℤ◌, ◌≤ℤ◌, ◌<ℤ◌}
use Rattle.std.proofs.Common.{ap, ◌∙◌, subst, inl, inr, arith, SFits, to_z, of_z}
use Rattle.std.proofs.Math.Path.{subst⁻¹}
use Rattle.std.proofs.Math.Option.{none, some}
use Rattle.std.specs.Int.Signed.{le_z, lt_z}
use Rattle.std.specs.Int.{w32}
use Rattle.std.proofs.lemmas.Int.{to_z-of_z}
use Rattle.ground_sets.specs.Bit.{bit, without}
use Rattle.ground_sets.specs.BitLaws.{bit_zero, without_lt, part_below}
use Rattle.ground_walks.specs.Walk.{without_other, without_inside}
use Rattle.ground_arithmetic.specs.Bools.{refuted, by_test}
use Rattle.ground_arithmetic.specs.Linear.{whole, plus, minus}
use Rattle.ground_arithmetic.specs.Sum.{sum, total, total_more, total_subset, total_range}
use Rattle.ground_arithmetic.specs.Time.{Moderate, fits, greater, greater_left, greater_right}
use Rattle.paper_board.specs.Paper.View.{Side, early, late}
use Rattle.paper_board.specs.Paper.Limits.{IsTime, first_minute, job_limit}
use Rattle.paper_board.specs.Paper.Values.{turned}
use Rattle.paper_board.specs.BoardTests.Ranges.{time_moderate}
use Rattle.paper_board.specs.BoardTests.BoundTime.{turned_time}
use Rattle.engine_sums.specs.Sums.{bound_at, length_at, end_at, Times, Lengths, load, Comes, Strikes, none_struck, struck, Beats, Sum, Exceeds, over}

-- ---- what the code adds fits an i32

pub time_fits : {z : ℤ} → IsTime z → SFits w32 z
time_fits {z} t = fits z (omega (whole, t.low)) (omega (whole, t.high))

-- also as the machine reads it back from its bits
pub time_back_moderate : {z : ℤ} → IsTime z → Moderate (to_z w32 (of_z w32 z))
time_back_moderate t = simp (to_z-of_z, time_fits t) (time_moderate t)

module _ {lengths : List ℤ} (work : Lengths lengths) where
  pub length_fits : (k : ℕ) → SFits w32 (length_at lengths k)
  length_fits k = fits _ (omega (whole, work.low k)) (omega (whole, work.high k))

  -- 64 lengths come to 640000 at most
  pub length_at_moderate : (k : ℕ) → Moderate (length_at lengths k)
  length_at_moderate k = (omega (whole, work.low k), omega (whole, work.high k))

  pub load_range : (S : ℕ → Bool) → (pos 0 ≤ℤ total job_limit S (length_at lengths)) × (total job_limit S (length_at lengths) ≤ℤ pos 640000)
  load_range S = total_range job_limit 10000 S (length_at lengths) λ k. (work.low k, work.high k)

  pub load_moderate : (w : ℕ) → Moderate (load lengths w)
  load_moderate w = let (low, high) = load_range (bit w) in (omega whole, omega whole)

pub load_none : (lengths : List ℤ) (w : ℕ) → w ≡ 0 → load lengths w ≡ pos 0
unfolding sum
load_none lengths w e = total_more 0 job_limit (bit w) (length_at lengths) (omega arith) λ k l. ap (λ x. bit x k) e ∙ bit_zero k

pub turned_back : (s : Side) (z : ℤ) → turned s (turned s z) ≡ z
turned_back early z = refl
turned_back late z = omega (whole, minus z, minus (neg_ℤ z))

pub turned_moderate : (s : Side) (z : ℤ) → Moderate z → Moderate (turned s z)
turned_moderate early z m = m
turned_moderate late z m = (omega (whole, minus z), omega (whole, minus z))

pub bound_moderate : (s : Side) {times : List ℤ} → Times times → (k : ℕ) → Moderate (bound_at s times k)
bound_moderate s hours k = time_moderate (turned_time s _ (hours.time k))

pub end_at_moderate : (s : Side) {times lengths : List ℤ} → Times times → Lengths lengths → (k : ℕ) → Moderate (end_at s times lengths k)
end_at_moderate s {times} {lengths} hours work k =
    let t = turned_time s _ (hours.time k) in
    let sum = plus (bound_at s times k) (length_at lengths k) in
    (omega (whole, sum, t.low, work.low k), omega (whole, sum, t.high, work.high k))

moderate_fits : (z : ℤ) → Moderate z → SFits w32 z
moderate_fits z m = fits z (omega whole) (omega whole)

-- a sum of lengths as the machine reads it back from its bits
pub load_back : {lengths : List ℤ} → Lengths lengths → (w : ℕ) (all : ℤ) → all ≡ load lengths w → to_z w32 (of_z w32 all) ≡ load lengths w
load_back work w all e = rw e (to_z-of_z w32 _ (moderate_fits _ (load_moderate work w)))

-- what a set with a member comes to, also as the machine reads it back from its bits
module _ {s : Side} {times lengths : List ℤ} {w : ℕ} {low all : ℤ} (hours : Times times) (work : Lengths lengths) (c : Comes s times lengths w low all)
    (some-job : w ≢ 0) where
  low_moderate : Moderate low
  low_moderate = let h = c.least some-job in subst⁻¹ Moderate h.is (bound_moderate s hours h.first)

  all_moderate : Moderate all
  all_moderate = subst⁻¹ Moderate c.loaded (load_moderate work w)

  pub low_back : to_z w32 (of_z w32 low) ≡ low
  low_back = to_z-of_z w32 low (moderate_fits low low_moderate)

  pub all_back : to_z w32 (of_z w32 all) ≡ all
  all_back = to_z-of_z w32 all (moderate_fits all all_moderate)

  pub back_moderate : Moderate (to_z w32 (of_z w32 low)) × Moderate (to_z w32 (of_z w32 all))
  back_moderate = rw (low_back, all_back) (low_moderate, all_moderate)

pub sum_range : {s : Side} {times lengths : List ℤ} {w : ℕ} {z : ℤ} → Times times → Lengths lengths → Sum s times lengths w z
    → (first_minute ≤ℤ z) × (z ≤ℤ pos 1140000)
sum_range {s} {times} {lengths} hours work q =
    let t = turned_time s _ (hours.time q.first) in
    let (low, high) = load_range work q.set in
    let sum = plus (bound_at s times q.first) (total job_limit q.set (length_at lengths)) in
    (omega (whole, q.is, sum, t.low), omega (whole, q.is, sum, t.high))

-- all the jobs of a part of the set
pub part_sum : {s : Side} {times lengths : List ℤ} {set w : ℕ} {low all : ℤ} → ((k : ℕ) → bit w k ≡ true → bit set k ≡ true)
    → Comes s times lengths w low all → w ≢ 0 → Sum s times lengths set (low +ℤ all)
part_sum {w = w} inside c some-job =
    let h = c.least some-job in
    record {
      set = bit w;
      inside = inside;
      first = h.first;
      member = h.member;
      least = λ k e. omega (whole, h.least k e, h.is);
      is = cc (h.is, c.loaded);
    }

-- where no number that has the property is above z, and z itself has it if it is above `low`, z is the greatest above `low`, if any is
pub none_above : {P : ℤ → Type 0} (low z : ℤ) → ((y : ℤ) → P y → y ≤ℤ z) → (low <ℤ z → P z) → Exceeds P low (over low z)
none_above {P} low z under at =
    by_test (Exceeds P low) (lt_z low z) (some z) none (λ e. ((at (omega whole), under), omega whole)) λ e y q. omega (whole, under y q)

-- ---- the jobs in play

-- all jobs of the set with a bound as great as that of job x are among `left`
abbrev Open : Side → List ℤ → ℕ → ℕ → ℕ → Type 0
Open s times set left x = (y : ℕ) → bit set y ≡ true → bound_at s times x ≤ℤ bound_at s times y → bit left y ≡ true

-- The jobs `left` of the set are in play: each set of jobs gives `best` at most, or is open at its least bound.
pub record InPlay (s : Side) (times lengths : List ℤ) (set left : ℕ) (best : ℤ) : Type 0 where
  pub fits : left < 2 ^ job_limit
  pub inside : (k : ℕ) → bit left k ≡ true → bit set k ≡ true
  covered : (z : ℤ) (p : Sum s times lengths set z) → (z ≤ℤ best) ⊎ Open s times set left p.first

-- the best so far: the floor, or the sum of a set
abbrev pub Best : Side → List ℤ → List ℤ → ℕ → ℤ → ℤ → Type 0
Best s times lengths set low z = (z ≡ low) ⊎ Sum s times lengths set z

module _ {s : Side} {times lengths : List ℤ} {set : ℕ} {low : ℤ} where
  better : {z x : ℤ} → Best s times lengths set low z → Best s times lengths set low x → Best s times lengths set low (greater z x)
  better {z} {x} h g = by_test (Best s times lengths set low) (lt_z z x) x z (λ _. g) (λ _. h)

  pub best_moderate : {z : ℤ} → Times times → Lengths lengths → Moderate low → Best s times lengths set low z → Moderate z
  best_moderate hours work m (inl e) = (omega (whole, e), omega (whole, e))
  best_moderate hours work m (inr q) = let (l, h) = sum_range hours work q in (omega whole, omega whole)

module _ {s : Side} {times lengths : List ℤ} {set : ℕ} where
  pub all_in_play : {left : ℕ} {best : ℤ} → set < 2 ^ job_limit → left ≡ set → InPlay s times lengths set left best
  all_in_play {left} fits same =
      record {
        fits = rw same fits;
        inside = λ k e. rw same at e;
        covered = λ z p. inr λ y e l. rw same e;
      }

  -- once no job is in play, no sum is above the best
  pub none_in_play : {left : ℕ} {low best : ℤ} → left ≡ 0 → InPlay s times lengths set left best → Best s times lengths set low best
      → Exceeds (Sum s times lengths set) low (over low best)
  none_in_play {left} {low} {best} empty p r = none_above low best (λ z q. closed z q (p.covered z q)) (greatest r)
    where
      greatest : Best s times lengths set low best → low <ℤ best → Sum s times lengths set best
      greatest (inl same) more = absurd (omega (whole, same))
      greatest (inr q) more = q

      closed : (z : ℤ) (q : Sum s times lengths set z) → (z ≤ℤ best) ⊎ Open s times set left q.first → z ≤ℤ best
      closed z q (inl l) = l
      closed z q (inr on) =
          let x = q.first in
          absurd (refuted (ap (λ w. bit w x) empty ∙ bit_zero x) (on x (q.inside x q.member) (omega whole)))

  -- a greater best covers no less
  raised : {left : ℕ} {best top : ℤ} → best ≤ℤ top → InPlay s times lengths set left best → InPlay s times lengths set left top
  raised {left} {best} {top} more p = record { fits = p.fits; inside = p.inside; covered = λ z q. go z q (p.covered z q) }
    where
      go : (z : ℤ) (q : Sum s times lengths set z) → (z ≤ℤ best) ⊎ Open s times set left q.first → (z ≤ℤ top) ⊎ Open s times set left q.first
      go z q (inl l) = inl (omega whole)
      go z q (inr on) = inr on

  -- an open set lies in play, so where it starts at no greater bound than that of job k, striking k covers it
  strike_one : {left : ℕ} {best : ℤ} → Lengths lengths → InPlay s times lengths set left best → (k : ℕ) → k < job_limit
      → (bound_at s times k +ℤ load lengths left) ≤ℤ best → InPlay s times lengths set (without job_limit left k) best
  strike_one {left} {best} work p k width under =
      record {
        fits = without_lt job_limit left k p.fits;
        inside = λ j e. p.inside j (without_inside job_limit left k p.fits width j e);
        covered = λ z q. go z q (p.covered z q) _ refl;
      }
    where
      go : (z : ℤ) (q : Sum s times lengths set z) → (z ≤ℤ best) ⊎ Open s times set left q.first
          → (t : Bool) → le_z (bound_at s times q.first) (bound_at s times k) ≡ t → (z ≤ℤ best) ⊎ Open s times set (without job_limit left k) q.first
      go z q (inl l) t e = inl l
      go z q (inr on) true e =
          let all = total job_limit q.set (length_at lengths) in
          let within : all ≤ℤ load lengths left = total_subset job_limit q.set (bit left) (length_at lengths) (λ j l m. on j (q.inside j m) (q.least j m)) (λ j l m. work.low j) in
          inl (omega (whole, q.is, plus (bound_at s times q.first) all, plus (bound_at s times k) (load lengths left)))
      go z q (inr on) false e = inr λ y i l.
          let other : y ≢ k = λ same. let at = subst (λ j. bound_at s times q.first ≤ℤ bound_at s times j) same l in refuted e (omega whole) in
          without_other job_limit left k p.fits width y other ∙ on y i l

  strike_all : {left : ℕ} {best : ℤ} {kept : ℕ} → Lengths lengths → InPlay s times lengths set left best → Strikes s times lengths best left kept
      → InPlay s times lengths set kept best
  strike_all work p none_struck = p
  strike_all work p (struck w k before width member under) = strike_one work (strike_all work p before) k width under

pub strikes_inside : {s : Side} {times lengths : List ℤ} {best : ℤ} {set kept : ℕ} → set < 2 ^ job_limit → Strikes s times lengths best set kept
    → (kept < 2 ^ job_limit) × ((k : ℕ) → bit kept k ≡ true → bit set k ≡ true)
strikes_inside fits none_struck = (fits, λ k e. e)
strikes_inside fits (struck w k before width member under) =
    let (smaller, inside) = strikes_inside fits before in
    (without_lt job_limit w k smaller, λ j e. inside j (without_inside job_limit w k smaller width j e))

-- ---- a round

-- the best is raised to the sum of all the jobs in play, low + all, if that is more, and jobs are struck
module _ {s : Side} {times lengths : List ℤ} {set left : ℕ} {best low all top : ℤ} (hours : Times times) (work : Lengths lengths)
    (p : InPlay s times lengths set left best) (c : Comes s times lengths left low all) (some-job : left ≢ 0) (is : top ≡ greater best (low +ℤ all)) where
  pub top_best : {floor : ℤ} → Best s times lengths set floor best → Best s times lengths set floor top
  top_best r = subst⁻¹ (Best s times lengths set _) is (better r (inr (part_sum p.inside c some-job)))

  module _ {kept : ℕ} (strikes : Strikes s times lengths top left kept) where
    pub round : InPlay s times lengths set kept top
    round = strike_all work (raised (omega (whole, is, greater_left best (low +ℤ all))) p) strikes

    -- the job with the least bound is struck
    pub round_falls : Beats s times lengths top left kept → kept < left
    round_falls beats =
        let least = c.least some-job in
        let x = least.first in
        part_below kept left x (strikes_inside p.fits strikes).1 least.member λ e.
        omega (whole, beats.over x e, is, least.is, c.loaded, greater_right best (low +ℤ all), plus low all, plus (bound_at s times x) (load lengths left))
