-- The sums of R4 and the differences of R5, each for one set S, in the paper's words: what a bound of a job is compared with.
use Rattle.std.specs.Prelude.{◌≡◌, Bool, true, ℕ, ℤ, ◌+ℤ◌, ◌-ℤ◌, ◌≤ℤ◌}
use Rattle.paper_board.specs.Paper.View.{View, Valid, Arc}
use Rattle.paper_rules.specs.Paper.Rules.{E, D, energy}

-- "(least E in S) + (sum of lengths in S)" for a "non-empty set S of valid jobs with arcs to B"; `first` is the member of S
-- with the least E
pub record SumR4 (v : View) (b : ℕ) (z : ℤ) : Type 0 where
  pub set : ℕ → Bool
  pub before : (k : ℕ) → set k ≡ true → Valid v k × Arc v k b
  pub first : ℕ
  pub member : set first ≡ true
  pub least : (k : ℕ) → set k ≡ true → E v first ≤ℤ E v k
  pub is : z ≡ E v first +ℤ energy v set

-- "(greatest D in S) - (sum of lengths in S)" for a "non-empty set S of valid jobs that A has arcs to"; `last` is the member
-- of S with the greatest D
pub record DifferenceR5 (v : View) (a : ℕ) (z : ℤ) : Type 0 where
  pub set : ℕ → Bool
  pub after : (k : ℕ) → set k ≡ true → Valid v k × Arc v a k
  pub last : ℕ
  pub member : set last ≡ true
  pub greatest : (k : ℕ) → set k ≡ true → D v k ≤ℤ D v last
  pub is : z ≡ D v last -ℤ energy v set
