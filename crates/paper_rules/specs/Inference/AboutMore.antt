-- A fact about jobs of a board is one about jobs of any larger one.
use Rattle.std.specs.Prelude.{ℕ, ◌≤◌}
use Rattle.std.proofs.Common.{arith}
use Rattle.paper_board.specs.Paper.Facts.{Fact, is_arc, is_bound, is_valid, is_invalid, AboutJobs}

pub about_more : {n m : ℕ} → n ≤ m → (f : Fact) → AboutJobs n f → AboutJobs m f
about_more l (is_arc i k) (x, y, ne) = (omega arith, omega arith, ne)
about_more l (is_bound s j z) x = omega arith
about_more l (is_valid j) x = omega arith
about_more l (is_invalid j) x = omega arith
