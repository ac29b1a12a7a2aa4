-- An exclusion, mark by mark: "makes an undecided job invalid and a valid one a contradiction".
use Rattle.std.specs.Prelude.{◌≡◌, ◌≢◌, ℕ, ◌<◌}
use Rattle.std.proofs.Common.{sym, ◌∙◌}
use Rattle.std.proofs.Math.Path.{ap}
use Rattle.std.proofs.Math.Option.{none, some}
use borrow.Author.Tests.{ne_eqb}
use Rattle.ground_sets.specs.Bit.{with}
use Rattle.paper_board.specs.declared.Board.{Board}
use Rattle.paper_board.specs.Paper.View.{row_of}
use Rattle.paper_board.specs.Paper.Limits.{Within}
use Rattle.paper_rules.specs.Update.Updates.{exclude}
use Rattle.paper_rules.specs.Update.Strike.{strike}
use Rattle.paper_rules.specs.Update.StrikeLaws.{strike_one}

module _ (b : Board) (j : ℕ) where
  pub exclude_valid : (row_of b j).mark ≡ 1 → exclude b j ≡ none
  unfolding exclude
  exclude_valid e = rw e

  pub exclude_invalid : (row_of b j).mark ≡ 2 → exclude b j ≡ some b
  unfolding exclude
  exclude_invalid e = rw e

  -- the set of one job struck out
  pub exclude_undecided : Within b → (set : ℕ) (c : Board) → j < b.jobs → (row_of b j).mark ≢ 1 → (row_of b j).mark ≢ 2
      → set ≡ with 0 j → c ≡ strike b set → exclude b j ≡ some c
  unfolding exclude
  exclude_undecided within set c job one two e struck =
      rw (ne_eqb _ _ one, ne_eqb _ _ two) (ap some (sym (struck ∙ ap (strike b) e ∙ strike_one b within j job)))

-- the three marks
pub ruleset excluding = (exclude_valid, exclude_invalid, exclude_undecided)
