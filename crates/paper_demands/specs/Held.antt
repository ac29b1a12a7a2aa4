-- The board after any sequence of calls from an empty board is reached by what they accepted.
use Rattle.std.proofs.Math.Path.{refl}
use mathlib.Core.List.Memᴰ
use Rattle.std.specs.Prelude.{List, []}
use Rattle.std.proofs.Common.{arith}
use Rattle.paper_board.specs.declared.Books.{Books}
use Rattle.paper_board.specs.Paper.View.{view}
use Rattle.paper_board.specs.Paper.Facts.{Fact}
use Rattle.paper_board.specs.Paper.Limits.{BooksWithin, empty_board}
use Rattle.paper_rules.specs.Order.Empty.{within_empty, empty_obeys, empty_below}
use Rattle.paper_entries.specs.Paper.Entry.{additions, Stated}
use Rattle.paper_entries.specs.Paper.Sequence.{Call, final_board, accepted_by}
use Rattle.paper_entries.proofs.Played.{Held, played}

nothing_stated : (f : Fact) → Stated [] f → ⊥
nothing_stated f s = Memᴰ.not-nil s.made

module _ (books : Books) (fits : BooksWithin books) where
  -- an empty board is reached by no entries
  pub held_empty : Held [] (empty_board books)
  unfolding additions
  held_empty =
      record {
        admissible = record { jobs = omega arith; rows = λ k l. absurd (omega arith); about = λ f s. absurd (nothing_stated f s) };
        reached =
            record {
              within = within_empty books;
              books = fits;
              shows =
                  record {
                    count = refl;
                    at_least = record { jobs = omega arith; rows = λ k l. absurd (omega arith); facts = λ f s. absurd (nothing_stated f s) };
                  };
              obeys = empty_obeys (view (empty_board books)) refl;
              below = λ w h ob. empty_below (empty_board books) (within_empty books) refl w;
            };
      }

  pub held : (cs : List Call) → Held (accepted_by books cs) (final_board books cs)
  held cs = played [] (empty_board books) cs held_empty
