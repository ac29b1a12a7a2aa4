-- Sums over the members of a word: they lose a term with each member that a walk takes out.
use Rattle.std.specs.Prelude.{◌≡◌, true, ℕ, ◌^◌, ◌<◌, ℤ, ◌+ℤ◌}
use Rattle.ground_sets.specs.Bit.{bit, without}
use Rattle.ground_walks.specs.Walk.{without_self, without_other}
use Rattle.ground_arithmetic.specs.Sum.{total, total_member}

pub total_without : (n w k : ℕ) → w < 2 ^ n → k < n → bit w k ≡ true → (f : ℕ → ℤ)
    → total n (bit w) f ≡ f k +ℤ total n (bit (without n w k)) f
total_without n w k fits width member f =
    total_member n (bit w) (bit (without n w k)) f k width member (without_self n w k fits width) (without_other n w k fits width)
