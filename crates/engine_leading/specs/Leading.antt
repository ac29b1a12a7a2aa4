-- The bound that a set of jobs leaves, and how long it stays: times elsewhere than in the set are nothing to it.
use Rattle.std.specs.Prelude.{◌≡◌, true, false, List, ◌≢◌, ℕ, ℤ, pos, get_or}
use Rattle.std.specs.Prelude as std
use Rattle.std.proofs.Common.{subst}
use Rattle.ground_sets.specs.Bit.{bit}
use Rattle.ground_arithmetic.specs.Bools.{refuted}
use Rattle.paper_board.specs.Paper.View.{Side}
use Rattle.paper_board.specs.Paper.Values.{turned}
use Rattle.engine_sums.specs.Sums.{Sum}
use Rattle.engine_bound_beyond.specs.BoundBeyond.{pushing}
use Rattle.engine_leading.specs.declared.Leading.{Leading}

-- where a bound is known, it is a sum of the jobs of its set
abbrev pub Leaves : Side → List ℤ → List ℤ → std.Option Leading → Type 0
Leaves s times lengths std.None = Unit
Leaves s times lengths (std.Some l) = Sum s times lengths l.set (turned s l.time)

-- and they are the valid jobs beyond job j
abbrev pub LeadsTo : std.Option Leading → List ℕ → ℕ → ℕ → Type 0
LeadsTo std.None beyond valids j = Unit
LeadsTo (std.Some l) beyond valids j = l.set ≡ pushing beyond valids j

-- the same times but at place j
abbrev pub SameBut : ℕ → List ℤ → List ℤ → Type 0
SameBut j times times' = (k : ℕ) → k ≢ j → get_or times' k (pos 0) ≡ get_or times k (pos 0)

-- what l leaves, r leaves also where the time at place j is another
abbrev pub Lasts : std.Option Leading → ℕ → std.Option Leading → Type 0
Lasts l j r = (s : Side) (times times' lengths : List ℤ) → Leaves s times lengths l → SameBut j times times' → Leaves s times' lengths r

-- nothing is left where no bound is known
pub unknown_leaves : (s : Side) (times lengths : List ℤ) → Leaves s times lengths std.None
unknown_leaves s times lengths = tt

-- a sum of jobs that j is not among
sum_elsewhere : (s : Side) (times times' lengths : List ℤ) (w j : ℕ) → bit w j ≡ false → SameBut j times times' → (z : ℤ)
    → Sum s times lengths w z → Sum s times' lengths w z
sum_elsewhere s times times' lengths w j out same z sum =
    record {
      set = sum.set;
      inside = sum.inside;
      first = sum.first;
      member = sum.member;
      least = λ k m. rw (stays sum.first sum.member, stays k m) (sum.least k m);
      is = rw (stays sum.first sum.member) sum.is;
    }
  where
    stays : (k : ℕ) → sum.set k ≡ true → get_or times' k (pos 0) ≡ get_or times k (pos 0)
    stays k m = same k λ e. refuted out (subst (λ x. bit w x ≡ true) e (sum.inside k m))

-- a bound of a set that j is not among
pub outside_lasts : (l : Leading) (j : ℕ) → bit l.set j ≡ false → Lasts (std.Some l) j (std.Some l)
outside_lasts l j out s times times' lengths leaves same = sum_elsewhere s times times' lengths l.set j out same (turned s l.time) leaves
