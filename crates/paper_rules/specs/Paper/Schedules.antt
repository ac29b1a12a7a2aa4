-- Schedules: sets of jobs with a start each, and what a schedule of entries, or one that keeps what a board shows, is.
use Rattle.std.specs.Prelude.{◌≡◌, ◌≢◌, ◌⊎◌, Bool, true, false, ℕ, ◌<◌, ℤ, neg_ℤ, ◌+ℤ◌, ◌≤ℤ◌}
use Rattle.paper_board.specs.Paper.View.{View, early, late}
use Rattle.paper_board.specs.Paper.Facts.{Fact, is_arc, is_bound, is_valid, is_invalid}
use Rattle.paper_rules.specs.Paper.Entries.{Entries, shown}

-- "a set of added jobs with a whole-minute start each"
pub record Placing : Type 0 where
  pub placed : ℕ → Bool
  pub start : ℕ → ℤ

abbrev pub Placed : Placing → ℕ → Type 0
Placed p j = p.placed j ≡ true

-- when a job ends
abbrev pub end : Entries → Placing → ℕ → ℤ
end es p j = p.start j +ℤ (es.row j).length

-- A placing respects a fact. "It holds every job marked 1 and none marked 2. Each job lies inside all its entered windows.
-- Each arc holds if both ends are in the set."
abbrev pub Respects : Entries → Placing → Fact → Type 0
Respects es p (is_arc i k) = Placed p i → Placed p k → end es p i ≤ℤ p.start k
Respects es p (is_bound early j z) = Placed p j → z ≤ℤ p.start j
Respects es p (is_bound late j z) = Placed p j → z ≤ℤ neg_ℤ (end es p j)
Respects es p (is_valid j) = Placed p j
Respects es p (is_invalid j) = p.placed j ≡ false

pub record Schedule (es : Entries) (p : Placing) : Type 0 where
  pub added : (j : ℕ) → Placed p j → j < es.jobs
  -- "It holds every job marked 1 and none marked 2."
  pub valid : (j : ℕ) → j < es.jobs → (es.row j).mark ≡ 1 → Placed p j
  pub invalid : (j : ℕ) → j < es.jobs → (es.row j).mark ≡ 2 → p.placed j ≡ false
  -- "Each job lies inside all its entered windows."
  pub earliest : (j : ℕ) → Placed p j → (es.row j).earliest ≤ℤ p.start j
  pub latest : (j : ℕ) → Placed p j → end es p j ≤ℤ (es.row j).latest
  -- the same of the marks, windows and arcs entered after the addition
  pub facts : (f : Fact) → es.facts f → Respects es p f
  -- "Of any two jobs in it one ends no later than the other starts."
  pub apart : (i k : ℕ) → Placed p i → Placed p k → i ≢ k → (end es p i ≤ℤ p.start k) ⊎ (end es p k ≤ℤ p.start i)

-- "It keeps what a board shows if the same is true of the shown marks, windows and arcs."
abbrev pub Keeps : View → Placing → Type 0
Keeps v p = Schedule (shown v) p
