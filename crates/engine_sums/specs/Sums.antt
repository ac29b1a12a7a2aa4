-- The sums that R4 and R5 compare a bound with, over the numbers that the code reads. R5 is R4 with the signs turned: a time
-- D counts as the bound -D, so a greatest D is a least bound and a difference is a sum.
use Rattle.std.specs.Prelude.{◌≡◌, Bool, true, cond, List, ◌≢◌, ℕ, ◌<◌, ℤ, pos, ◌+ℤ◌, get_or, ◌≤ℤ◌, ◌<ℤ◌}
use Rattle.std.specs.Prelude as std
use Rattle.std.proofs.Math.Option.{Option, none, some}
use Rattle.std.specs.Int.Signed.{lt_z}
use Rattle.ground_sets.specs.Bit.{bit, without}
use Rattle.ground_arithmetic.specs.Sum.{total}
use Rattle.paper_board.specs.Paper.View.{Side, early, late}
use Rattle.paper_board.specs.Paper.Limits.{IsTime, job_limit, longest}
use Rattle.paper_board.specs.Paper.Values.{turned}

-- the bound on side s that stands at place k of a board's times
abbrev pub bound_at : Side → List ℤ → ℕ → ℤ
bound_at s times k = turned s (get_or times k (pos 0))

abbrev pub length_at : List ℤ → ℕ → ℤ
length_at lengths k = get_or lengths k (pos 0)

-- the bound that the job at place k leaves to the jobs beyond it
abbrev pub end_at : Side → List ℤ → List ℤ → ℕ → ℤ
end_at s times lengths k = bound_at s times k +ℤ length_at lengths k

-- every place holds a time
pub record Times (times : List ℤ) : Type 0 where
  pub time : (k : ℕ) → IsTime (get_or times k (pos 0))

-- every place holds a length or 0
pub record Lengths (lengths : List ℤ) : Type 0 where
  pub low : (k : ℕ) → pos 0 ≤ℤ length_at lengths k
  pub high : (k : ℕ) → length_at lengths k ≤ℤ longest

-- the sum of lengths in the set w
abbrev pub load : List ℤ → ℕ → ℤ
load lengths w = total job_limit (bit w) (length_at lengths)

-- z is the least bound of the set w
pub record LeastBound (s : Side) (times : List ℤ) (w : ℕ) (z : ℤ) : Type 0 where
  pub first : ℕ
  pub member : bit w first ≡ true
  pub is : z ≡ bound_at s times first
  pub least : (k : ℕ) → bit w k ≡ true → z ≤ℤ bound_at s times k

-- what the set w comes to: its least bound, where it has a member, and the sum of its lengths
pub record Comes (s : Side) (times lengths : List ℤ) (w : ℕ) (low all : ℤ) : Type 0 where
  pub least : w ≢ 0 → LeastBound s times w low
  pub loaded : all ≡ load lengths w

-- What is left of a set when jobs are struck one after the other: each one's bound and the lengths of all that are left when
-- it is struck, its own among them, come to `best` at most.
pub data Strikes (s : Side) (times lengths : List ℤ) (best : ℤ) (set : ℕ) : ℕ → Type 0 where
  none_struck : Strikes s times lengths best set set
  struck : (w k : ℕ) → Strikes s times lengths best set w → k < job_limit → bit w k ≡ true
      → (bound_at s times k +ℤ load lengths w) ≤ℤ best → Strikes s times lengths best set (without job_limit w k)

-- the bound of each job kept beats `best` with the lengths of the whole set
pub record Beats (s : Side) (times lengths : List ℤ) (best : ℤ) (set kept : ℕ) : Type 0 where
  pub over : (k : ℕ) → bit kept k ≡ true → best <ℤ (bound_at s times k +ℤ load lengths set)

-- "(least E in S) + (sum of lengths in S) for each non-empty set S of valid jobs with arcs to B", and R5's difference turned:
-- z is that sum for a set S of jobs of the word w, whose member with the least bound is `first`.
pub record Sum (s : Side) (times lengths : List ℤ) (w : ℕ) (z : ℤ) : Type 0 where
  pub set : ℕ → Bool
  pub inside : (k : ℕ) → set k ≡ true → bit w k ≡ true
  pub first : ℕ
  pub member : set first ≡ true
  pub least : (k : ℕ) → set k ≡ true → bound_at s times first ≤ℤ bound_at s times k
  pub is : z ≡ bound_at s times first +ℤ total job_limit set (length_at lengths)

-- the greatest number that has the property P
abbrev Greatest : (ℤ → Type 0) → ℤ → Type 0
Greatest P z = P z × ((y : ℤ) → P y → y ≤ℤ z)

-- the greatest number that has the property P, where it is above `low`; none where no such number is above it
abbrev pub Exceeds : (ℤ → Type 0) → ℤ → Option ℤ → Type 0
Exceeds P low none = (z : ℤ) → P z → z ≤ℤ low
Exceeds P low (some z) = Greatest P z × (low <ℤ z)

-- z, where it is above `low`
abbrev pub over : ℤ → ℤ → Option ℤ
over low z = cond (lt_z low z) (some z) none

-- the job at place k ends by `low` with the lengths of all of the set w added, and no sum of w is above `low`
pub record EndsBy (s : Side) (times lengths : List ℤ) (k w : ℕ) (low : ℤ) : Type 0 where
  pub together : (end_at s times lengths k +ℤ load lengths w) ≤ℤ low
  pub sums : (z : ℤ) → Sum s times lengths w z → z ≤ℤ low

-- a bound above that of job j, to which a set of jobs of the word w pushes it
abbrev pub Pushes : Side → List ℤ → List ℤ → ℕ → ℕ → Option ℤ → Type 0
Pushes s times lengths w j none = Unit
Pushes s times lengths w j (some z) = Sum s times lengths w z × (bound_at s times j <ℤ z)

-- the bound that an answer stands for: a time, or none
abbrev pub bound_of : Side → std.Option ℤ → Option ℤ
bound_of s std.None = none
bound_of s (std.Some t) = some (turned s t)

-- the times that stand on side s
abbrev pub times_on : Side → List ℤ → List ℤ → List ℤ
times_on early earliest latest = earliest
times_on late earliest latest = latest
