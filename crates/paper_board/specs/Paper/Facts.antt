-- Facts: what entries state, rules infer and boards show.
use Rattle.std.specs.Prelude.{◌≢◌, ℕ, ◌<◌, ℤ, ◌≤ℤ◌}
use Rattle.paper_board.specs.Paper.View.{View, Live, Valid, Invalid, Arc, Side, bound}

-- An arc from one job to another; a bound on one side of a job's window; a valid job; an invalid one.
pub data Fact : Type 0 where
  is_arc : ℕ → ℕ → Fact
  is_bound : Side → ℕ → ℤ → Fact
  is_valid : ℕ → Fact
  is_invalid : ℕ → Fact

-- A fact speaks of jobs of the board. "The arcs and windows entered for [an invalid job] count as shown".
abbrev pub Holds : View → Fact → Type 0
Holds v (is_arc i k) = (i < v.jobs) × (k < v.jobs) × (Live v i → Live v k → Arc v i k)
Holds v (is_bound s j z) = (j < v.jobs) × (Live v j → z ≤ℤ bound s (v.row j))
Holds v (is_valid j) = Valid v j
Holds v (is_invalid j) = Invalid v j

-- the fact is about jobs of a board of n jobs, and an arc about different ones
abbrev pub AboutJobs : ℕ → Fact → Type 0
AboutJobs n (is_arc i k) = (i < n) × (k < n) × (i ≢ k)
AboutJobs n (is_bound s j z) = j < n
AboutJobs n (is_valid j) = j < n
AboutJobs n (is_invalid j) = j < n
