-- "An empty board has no jobs; its tally may be any within its limit": an empty board is within its limits, whatever its books, and is
-- the only board within them that has no jobs.
use Rattle.std.specs.Prelude.{◌≡◌, refl, ℕ}
use Rattle.std.proofs.Common.{arith}
use Rattle.ground_arithmetic.specs.Linear.{eq_z}
use Rattle.paper_board.specs.declared.Board.{Board}
use Rattle.paper_board.specs.declared.Books.{Books}
use Rattle.paper_board.specs.Paper.Parts.{empty_books}
use Rattle.paper_board.specs.Paper.View.{View, Live, view}
use Rattle.paper_board.specs.Paper.Facts.{Fact, Holds}
use Rattle.paper_board.specs.Paper.Limits.{Within, BooksWithin, empty_board}
use Rattle.paper_rules.specs.Paper.Entries.{Drawn, drawn, ◌⊑◌}
use Rattle.paper_rules.specs.Order.LeastUnique.{alike_boards, equal_boards}
use Rattle.paper_rules.specs.Inference.Infers.{r1, r2, r3, r45, r6, Obeys}
use Rattle.paper_rules.specs.Update.Extension.{above_self}
use Rattle.paper_board.specs.Paper.Tests.{implies}
use Rattle.paper_board.specs.BoardTests.WithinLimits.{all, is_zero, is_zero_row, full, shape, holds_nothing, within_limits}
use Rattle.paper_board.proofs.LimitsDecided.{limits_yes, decides_books}

pub within_empty : (books : Books) → Within (empty_board books)
unfolding all implies eq_z is_zero is_zero_row full shape holds_nothing within_limits
within_empty books = limits_yes (empty_board books) refl

pub within_empty_books : BooksWithin empty_books
within_empty_books = (decides_books empty_books).yes refl

-- a view without live jobs infers nothing
pub idle_obeys : (v : View) → ((j : ℕ) → Live v j → ⊥) → Obeys v
idle_obeys v idle _ (r1 a b c la vb lc ne ab bc) = absurd (idle a la)
idle_obeys v idle _ (r2 a b va lb ab ba) = absurd (idle b lb)
idle_obeys v idle _ (r3 a b la lb ne h) = absurd (idle a la)
idle_obeys v idle _ (r45 s j S m lj p) = absurd (idle j lj)
idle_obeys v idle _ (r6 j lj h) = absurd (idle j lj)

pub empty_obeys : (v : View) → v.jobs ≡ 0 → Obeys v
empty_obeys v empty = idle_obeys v λ j l. omega (arith, empty, l.0)

-- a board without jobs shows nothing, so that it is below every view
pub empty_below : (b : Board) → Within b → b.jobs ≡ 0 → (w : View) → view b ⊑ w
empty_below b h empty w =
    record { jobs = omega arith; rows = λ k l. absurd (omega arith); facts = undrawn }
  where
    undrawn : (f : Fact) → Drawn (view b) f → Holds w f
    undrawn _ (drawn i k a) = absurd (omega (arith, ((above_self b h).above.facts _ (drawn i k a)).0))

pub empty_only : (b : Board) → Within b → b.jobs ≡ 0 → b ≡ empty_board b.books
empty_only b h empty =
    let e = empty_board b.books in
    let h' = within_empty b.books in
    let alike = alike_boards b e h h' (empty_below b h empty (view e)) (empty_below e h' refl (view b)) in
    equal_boards b e h h' (record { alike = alike; books = refl })
