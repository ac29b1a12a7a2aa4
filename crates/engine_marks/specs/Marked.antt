-- Sets of jobs by their marks, as words: those with a mark and those without it. On a board these are the valid jobs and
-- the live ones.
use Rattle.std.specs.Prelude.{◌≡◌, not, List, ℕ, eqb, get_or}
use Rattle.ground_sets.specs.Bit.{bit, set_of}
use Rattle.ground_sets.specs.BitLaws.{bit_set_of}
use Rattle.paper_board.specs.declared.Board.{Board}
use Rattle.paper_board.specs.Paper.View.{view}
use Rattle.paper_board.specs.Paper.Tests.{live, valid}

abbrev pub marked : ℕ → List ℕ → ℕ → ℕ
marked jobs marks mark = set_of jobs λ k. eqb (get_or marks k 0) mark

abbrev pub unmarked : ℕ → List ℕ → ℕ → ℕ
unmarked jobs marks mark = set_of jobs λ k. not (eqb (get_or marks k 0) mark)

module _ (b : Board) (k : ℕ) where
  pub bit_valid : bit (marked b.jobs b.marks 1) k ≡ valid (view b) k
  unfolding valid
  bit_valid = bit_set_of b.jobs _ k

  pub bit_live : bit (unmarked b.jobs b.marks 2) k ≡ live (view b) k
  unfolding live
  bit_live = bit_set_of b.jobs _ k
