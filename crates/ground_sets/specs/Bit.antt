-- A set of jobs as one number: bit k is 1 where job k is in the set. `difference` and `without` complement a set, so they
-- take the width n that the sets fit. What these definitions mean for the members is in BitLaws. Assumes nothing.
use Rattle.std.specs.Prelude.{ℕ, zero, suc, ◌+◌, ◌-◌, ◌*◌, ◌/◌, ◌%◌, ◌^◌, Bool, cond, eqb}
use Rattle.std.specs.Int.Bits.{bit_and, bit_or}

-- the width of the code's words
abbrev pub width : ℕ
width = 64

-- is job k in the set w?
unfoldable pub bit : ℕ → ℕ → Bool
bit w k = eqb (w / 2 ^ k % 2) 1

unfoldable pub singleton : ℕ → ℕ
singleton k = 2 ^ k

unfoldable pub union : ℕ → ℕ → ℕ
union a b = bit_or a b

unfoldable pub intersection : ℕ → ℕ → ℕ
intersection a b = bit_and a b

unfoldable pub difference : ℕ → ℕ → ℕ → ℕ
difference n a b = bit_and a (2 ^ n - 1 - b)

unfoldable pub with : ℕ → ℕ → ℕ
with w k = union w (singleton k)

unfoldable pub without : ℕ → ℕ → ℕ → ℕ
without n w k = difference n w (singleton k)

-- the jobs below n that pass the test: the lowest bit is for job 0
unfoldable pub set_of : ℕ → (ℕ → Bool) → ℕ
set_of zero t = 0
set_of (suc n) t = cond (t 0) 1 0 + 2 * set_of n (λ k. t (suc k))
