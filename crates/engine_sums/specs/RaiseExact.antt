-- The energy bound is exact: on any board within its limits, closed or not, the sums over the numbers that the code reads are
-- those of R4 and R5, so their greatest is the greatest of R4's sums and stands for the least of R5's differences.
use Rattle.std.specs.Prelude.{◌≡◌, refl, Bool, true, List, ℕ, ℤ, neg_ℤ, ◌≤ℤ◌, ◌<ℤ◌}
use Rattle.std.specs.Prelude as std
use Rattle.std.proofs.Math.Option.{Option, none, some}
use Rattle.std.proofs.Common.{arith}
use Rattle.ground_sets.specs.Bit.{bit}
use Rattle.ground_arithmetic.specs.Bools.{is_false}
use Rattle.ground_arithmetic.specs.Linear.{whole, plus, minus}
use Rattle.ground_arithmetic.specs.Sum.{total, total_more}
use Rattle.paper_board.specs.declared.Board.{Board}
use Rattle.paper_board.specs.Paper.View.{View, Valid, Arc, Side, early, late, bound, Beyond, view, row_of}
use Rattle.paper_board.specs.Paper.Limits.{Within, job_limit}
use Rattle.paper_rules.specs.Paper.Rules.{D, energy}
use Rattle.paper_rules.specs.Paper.Energy.{SumR4, DifferenceR5}
use Rattle.paper_board.specs.BoardTests.Decides.{Decides}
use Rattle.paper_board.specs.BoardTests.Ranges.{ranges}
use Rattle.paper_rules.specs.Inference.SumBeyond.{SumBeyond}
use Rattle.engine_sums.specs.Sums.{bound_at, length_at, Times, Lengths, Sum, Exceeds, bound_of}

-- ---- a board's numbers

-- a board's bounds on side s, as the times that it keeps
abbrev pub times_of : Board → Side → List ℤ
times_of b early = b.earliest
times_of b late = b.latest

pub times_within : (b : Board) → Within b → (s : Side) → Times (times_of b s)
times_within b h early = record { time = λ k. (ranges b h k).earliest }
times_within b h late = record { time = λ k. (ranges b h k).latest }

pub lengths_within : (b : Board) → Within b → Lengths b.lengths
lengths_within b h = record { low = λ k. (ranges b h k).low; high = λ k. (ranges b h k).high }

pub bound_is : (b : Board) (s : Side) (k : ℕ) → bound_at s (times_of b s) k ≡ bound s (row_of b k)
bound_is b early k = refl
bound_is b late k = refl

-- valid jobs are jobs of the board, so there is nothing to add past them
pub energy_is : (b : Board) → Within b → (S : ℕ → Bool) → ((k : ℕ) → S k ≡ true → Valid (view b) k)
    → total job_limit S (length_at b.lengths) ≡ energy (view b) S
energy_is b h S valid = total_more b.jobs job_limit S (length_at b.lengths) h.limits.jobs λ k l. is_false _ λ e.
    omega (arith, (valid k e).0)

-- ---- R4 and R5 as one, with a side

exceeds_same : (P Q : ℤ → Type 0) → ((z : ℤ) → P z → Q z) → ((z : ℤ) → Q z → P z) → (low : ℤ) (o : Option ℤ)
    → Exceeds P low o → Exceeds Q low o
exceeds_same P Q f g low none h = λ z q. h z (g z q)
exceeds_same P Q f g low (some z) ((p, most), over) = ((f z p, λ y q. most y (g y q)), over)

module _ (b : Board) (h : Within b) (s : Side) (j w : ℕ) where
  pub sum_beyond : ((k : ℕ) → bit w k ≡ true → Valid (view b) k × Beyond (view b) s k j)
      → (z : ℤ) → Sum s (times_of b s) b.lengths w z → SumBeyond (view b) s j z
  sum_beyond members z p =
      let valid : (k : ℕ) → p.set k ≡ true → Valid (view b) k × Beyond (view b) s k j = λ k e. members k (p.inside k e) in
      record {
        set = p.set;
        beyond = valid;
        first = p.first;
        member = p.member;
        least = λ k e. omega (whole, p.least k e, bound_is b s p.first, bound_is b s k);
        is = cc (p.is, bound_is b s p.first, energy_is b h p.set (λ k e. (valid k e).0));
      }

  -- and back, where the set is one of the word w
  pub sum_of : (z : ℤ) (p : SumBeyond (view b) s j z) → ((k : ℕ) → p.set k ≡ true → bit w k ≡ true) → Sum s (times_of b s) b.lengths w z
  sum_of z p inside =
      record {
        set = p.set;
        inside = inside;
        first = p.first;
        member = p.member;
        least = λ k e. omega (whole, p.least k e, bound_is b s p.first, bound_is b s k);
        is = cc (p.is, bound_is b s p.first, energy_is b h p.set (λ k e. (p.beyond k e).0));
      }

module _ (b : Board) (h : Within b) (s : Side) (j w : ℕ) (members : (k : ℕ) → Decides (bit w k) (Valid (view b) k × Beyond (view b) s k j)) where
  beyond_sum : (z : ℤ) → SumBeyond (view b) s j z → Sum s (times_of b s) b.lengths w z
  beyond_sum z p = sum_of b h s j w z p λ k e. (members k).show (p.beyond k e)

  pub exceeds_beyond : (low : ℤ) (o : Option ℤ) → Exceeds (Sum s (times_of b s) b.lengths w) low o → Exceeds (SumBeyond (view b) s j) low o
  exceeds_beyond = exceeds_same _ _ (sum_beyond b h s j w λ k e. (members k).yes e) beyond_sum

-- ---- in the paper's words

-- the least number that has the property P, where it is below `high`; none where no such number is below it
abbrev pub FallsBelow : (ℤ → Type 0) → ℤ → Option ℤ → Type 0
FallsBelow P high none = (z : ℤ) → P z → high ≤ℤ z
FallsBelow P high (some z) = (P z × ((y : ℤ) → P y → z ≤ℤ y)) × (z <ℤ high)

-- the time that an answer gives
abbrev pub time_of : std.Option ℤ → Option ℤ
time_of std.None = none
time_of (std.Some t) = some t

beyond_R4 : (v : View) (b : ℕ) (z : ℤ) → SumBeyond v early b z → SumR4 v b z
beyond_R4 v b z p =
    record { set = p.set; before = p.beyond; first = p.first; member = p.member; least = p.least; is = p.is }

R4_beyond : (v : View) (b : ℕ) (z : ℤ) → SumR4 v b z → SumBeyond v early b z
R4_beyond v b z p =
    record { set = p.set; beyond = p.before; first = p.first; member = p.member; least = p.least; is = p.is }

module _ (v : View) (a : ℕ) (z : ℤ) where
  beyond_R5 : SumBeyond v late a (neg_ℤ z) → DifferenceR5 v a z
  beyond_R5 p =
      let d = D v p.first in
      let e = energy v p.set in
      record {
        set = p.set;
        after = p.beyond;
        last = p.first;
        member = p.member;
        greatest = λ k i. omega (whole, p.least k i, minus d, minus (D v k));
        is = omega (whole, p.is, minus z, minus d, minus e, plus (neg_ℤ d) e, plus d (neg_ℤ e));
      }

  R5_beyond : DifferenceR5 v a z → SumBeyond v late a (neg_ℤ z)
  R5_beyond p =
      let d = D v p.last in
      let e = energy v p.set in
      record {
        set = p.set;
        beyond = p.after;
        first = p.last;
        member = p.member;
        least = λ k i. omega (whole, p.greatest k i, minus d, minus (D v k));
        is = omega (whole, p.is, minus z, minus d, minus e, plus (neg_ℤ d) e, plus d (neg_ℤ e));
      }

-- "E of a live B is at least (least E in S) + (sum of lengths in S) for each non-empty set S of valid jobs with arcs to B":
-- at side early the answer is the greatest of these sums where it is above the floor, and none exactly where no such sum is.
pub raise_exact : (b : Board) → Within b → (j w : ℕ) → ((k : ℕ) → Decides (bit w k) (Valid (view b) k × Arc (view b) k j))
    → (floor : ℤ) (r : std.Option ℤ) → Exceeds (Sum early b.earliest b.lengths w) floor (bound_of early r)
    → Exceeds (SumR4 (view b) j) floor (time_of r)
raise_exact b h j w members floor r g = go r (exceeds_beyond b h early j w members floor (bound_of early r) g)
  where
    go : (r : std.Option ℤ) → Exceeds (SumBeyond (view b) early j) floor (bound_of early r) → Exceeds (SumR4 (view b) j) floor (time_of r)
    go std.None g = exceeds_same _ _ (beyond_R4 (view b) j) (R4_beyond (view b) j) floor none g
    go (std.Some t) g = exceeds_same _ _ (beyond_R4 (view b) j) (R4_beyond (view b) j) floor (some t) g

-- "D of a live A is at most (greatest D in S) - (sum of lengths in S) for each non-empty set S of valid jobs that A has arcs
-- to": at side late the answer is the least of these differences where it is below the floor, and none exactly where none is.
pub lower_exact : (b : Board) → Within b → (j w : ℕ) → ((k : ℕ) → Decides (bit w k) (Valid (view b) k × Arc (view b) j k))
    → (floor : ℤ) (r : std.Option ℤ) → Exceeds (Sum late b.latest b.lengths w) (neg_ℤ floor) (bound_of late r)
    → FallsBelow (DifferenceR5 (view b) j) floor (time_of r)
lower_exact b h j w members floor r g = go r (exceeds_beyond b h late j w members (neg_ℤ floor) (bound_of late r) g)
  where
    turned : (y : ℤ) → DifferenceR5 (view b) j y → SumBeyond (view b) late j (neg_ℤ y)
    turned y p = R5_beyond (view b) j y p

    go : (r : std.Option ℤ) → Exceeds (SumBeyond (view b) late j) (neg_ℤ floor) (bound_of late r) → FallsBelow (DifferenceR5 (view b) j) floor (time_of r)
    go std.None g = λ z p. omega (whole, g (neg_ℤ z) (turned z p), minus z, minus floor)
    go (std.Some t) ((p, most), over) =
        ((beyond_R5 (view b) j t p, λ y q. omega (whole, most (neg_ℤ y) (turned y q), minus y, minus t)), omega (whole, over, minus t, minus floor))
