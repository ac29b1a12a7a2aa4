-- "for every ordered pair of two live jobs": the first inference that a view does not show yet, if any.
use Rattle.std.specs.Prelude.{Bool, true, false, not, ◌&&◌, ◌||◌, ℕ, zero, suc, eqb, ℤ, ◌+ℤ◌}
use Rattle.std.proofs.Math.Option.{Option, none, some}
use Rattle.std.specs.Int.Signed.{le_z, lt_z}
use Rattle.paper_board.specs.Paper.View.{View, Side, early, late, bound}
use Rattle.paper_board.specs.Paper.Facts.{Fact, is_arc, is_bound, is_invalid}
use Rattle.paper_rules.specs.Paper.Rules.{energy}
use Rattle.paper_board.specs.Paper.Tests.{live, valid}
use Rattle.paper_board.specs.BoardTests.Live.{roomy}

-- the fact, where the test holds
unfoldable pub guard : Bool → Fact → Option Fact
guard true f = some f
guard false f = none

infixl 20 ◌or_else◌
unfoldable pub ◌or_else◌ : Option Fact → Option Fact → Option Fact
none or_else o = o
some f or_else o = some f

-- the first answer for a number below n
unfoldable pub first : ℕ → (ℕ → Option Fact) → Option Fact
first zero g = none
first (suc n) g = first n g or_else g n

-- does the test hold of a number below n?
unfoldable pub any : ℕ → (ℕ → Bool) → Bool
any zero t = false
any (suc n) t = any n t || t n

module _ (v : View) where
  -- the test of `Beyond`
  unfoldable pub beyond : Side → ℕ → ℕ → Bool
  beyond early k j = v.arc k j
  beyond late k j = v.arc j k

  -- R3: E of A + length of A + length of B > D of B
  unfoldable pub too_late : ℕ → ℕ → Bool
  too_late a b = lt_z (v.row b).latest ((v.row a).earliest +ℤ (v.row a).length +ℤ (v.row b).length)

  -- R1: arcs A to B and B to C, B valid
  unfoldable pub joined : ℕ → ℕ → Bool
  joined a c = any v.jobs λ b. valid v b && v.arc a b && v.arc b c

  -- the valid jobs beyond j on side s whose bound is no lower than that of x
  unfoldable pub pushers : Side → ℕ → ℕ → ℕ → Bool
  pushers s x j k = valid v k && beyond s k j && le_z (bound s (v.row x)) (bound s (v.row k))

  -- R4 and R5: the bound that those jobs leave to j
  unfoldable pub pushed : Side → ℕ → ℕ → ℤ
  pushed s x j = bound s (v.row x) +ℤ energy v (pushers s x j)

  unfoldable pub push : Side → ℕ → ℕ → Option Fact
  push s x j =
      guard (live v j && valid v x && beyond s x j && lt_z (bound s (v.row j)) (pushed s x j)) (is_bound s j (pushed s x j))

  -- what a rule infers at the pair of i and k, and the view does not show
  unfoldable pub next : ℕ → ℕ → Option Fact
  next i k =
      guard (live v i && not (roomy (v.row i))) (is_invalid i)
      or_else guard (valid v i && live v k && v.arc i k && v.arc k i) (is_invalid k)
      or_else guard (live v i && live v k && not (eqb i k) && too_late i k && not (v.arc k i)) (is_arc k i)
      or_else guard (live v i && live v k && not (eqb i k) && joined i k && not (v.arc i k)) (is_arc i k)
      or_else push early i k
      or_else push late i k

  unfoldable pub find : Option Fact
  find = first v.jobs λ i. first v.jobs (next i)
