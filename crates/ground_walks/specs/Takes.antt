-- A walk over a set: its least or its greatest member, and what taking one out leaves. Assumes nothing.
use Rattle.std.specs.Prelude.{ℕ, ◌<◌, ◌≡◌, ◌≢◌, Bool, true, false}
use Rattle.ground_sets.specs.Bit.{bit, without}

-- k is the least member of the set w, of jobs below n
pub record Lowest (n w k : ℕ) : Type 0 where
  pub width : k < n
  pub member : bit w k ≡ true
  pub least : (j : ℕ) → j < k → bit w j ≡ false

-- k is the greatest member of the set w, of jobs below n
pub record Highest (n w k : ℕ) : Type 0 where
  pub width : k < n
  pub member : bit w k ≡ true
  pub greatest : (j : ℕ) → k < j → bit w j ≡ false

-- k is the next job of a walk over the set w: its least member or, on a walk downward, its greatest
unfoldable pub Next : ℕ → Bool → ℕ → ℕ → Type 0
Next n false w k = Lowest n w k
Next n true w k = Highest n w k

-- the next job k of a walk over the set w, taken out of it, and the rest: what is left is in the set, and less than it, so that a walk ends
pub record Takes (n : ℕ) (downward : Bool) (w k rest : ℕ) : Type 0 where
  pub next : Next n downward w k
  pub width : k < n
  pub member : bit w k ≡ true
  pub left : rest ≡ without n w k
  pub out : bit rest k ≡ false
  pub others : (j : ℕ) → j ≢ k → bit rest j ≡ bit w j
  pub inside : (j : ℕ) → bit rest j ≡ true → bit w j ≡ true
  pub falls : rest < w
