-- What the search reads of a board: its arrays, and the words of its live jobs and of its valid jobs.
use Rattle.std.specs.Prelude.{◌≡◌, refl, ℕ}
use Rattle.std.proofs.Common.{ap, ◌∙◌}
use Rattle.ground_sets.specs.Bit.{bit}
use Rattle.paper_board.specs.declared.Board.{Board}
use Rattle.paper_board.specs.Paper.View.{early, late}
use Rattle.paper_board.specs.Paper.Limits.{Within}
use Rattle.engine_sums.specs.Sums.{Times, Lengths}
use Rattle.engine_sums.specs.RaiseExact.{times_within, lengths_within}
use Rattle.engine_marks.specs.Marked.{marked, unmarked, bit_valid, bit_live}
use Rattle.engine_search.specs.PairsWalk.{BoardRead}

module _ (b : Board) (h : Within b) where
  pub arrays_hold : Times b.earliest × Times b.latest × Lengths b.lengths
  arrays_hold = (times_within b h early, times_within b h late, lengths_within b h)

  pub board_read : {lives valids : ℕ} → lives ≡ unmarked b.jobs b.marks 2 → valids ≡ marked b.jobs b.marks 1
      → BoardRead b lives valids b.earliest b.latest b.lengths b.before b.after
  board_read is_live is_valid =
      record {
        is_live = λ x. ap (λ w. bit w x) is_live ∙ bit_live b x;
        arrays = record {
          within = h;
          is_earliest = refl;
          is_latest = refl;
          is_lengths = refl;
          is_before = refl;
          is_after = refl;
          is_valid = λ x. ap (λ w. bit w x) is_valid ∙ bit_valid b x;
        };
      }
