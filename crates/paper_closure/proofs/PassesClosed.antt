-- The test of check 0 holds exactly of the boards within the limits, and with books within theirs, that are closed over what they show.
use Rattle.std.specs.Prelude.{◌≡◌, refl, ◌↔◌, true, ◌&&◌}
use Rattle.std.proofs.Common.{sym}
use Rattle.std.proofs.Math.Option.{Option, none, some}
use Rattle.ground_arithmetic.specs.Bools.{refuted, and_parts, and_both}
use Rattle.paper_board.specs.declared.Board.{Board}
use Rattle.paper_board.specs.declared.Books.{Books}
use Rattle.paper_board.specs.Paper.View.{view}
use Rattle.paper_board.specs.Paper.Facts.{Fact}
use Rattle.paper_rules.specs.Inference.Infers.{Obeys}
use Rattle.paper_board.specs.Paper.Limits.{Within, BooksWithin, empty_board}
use Rattle.paper_board.specs.BoardTests.WithinLimits.{within_limits, books_limits}
use Rattle.paper_board.proofs.LimitsDecided.{limits_yes, limits_show, decides_books}
use Rattle.paper_rules.specs.Order.Empty.{within_empty, empty_obeys}
use Rattle.paper_rules.specs.Paper.Entries.{shown}
use Rattle.paper_rules.specs.Paper.Closed.{Closed, Least}
use Rattle.paper_rules.proofs.Leastness.{handed_in}
use Rattle.paper_rules.proofs.ObeysRules.{obeys_rules, rules_obey}
use Rattle.paper_rules.specs.Update.Derives.{derived_self}
use Rattle.paper_closure.specs.Find.{find}
use Rattle.paper_closure.specs.FindSound.{find_sound}
use Rattle.paper_closure.specs.FindComplete.{find_complete}
use Rattle.paper_closure.specs.Closure.{closure}
use Rattle.paper_closure.proofs.Closes.{lengths}
use Rattle.paper_closure.proofs.DerivedClosure.{derived_closure}
use Rattle.paper_closure.specs.Passes.{nothing_left, passes}

settled_none : (o : Option Fact) → nothing_left o ≡ true → o ≡ none
unfolding nothing_left
settled_none none e = refl
settled_none (some f) e = absurd (refuted refl e)

nothing_left_obeyed : (b : Board) → Obeys (view b) → (o : Option Fact) → find (view b) ≡ o → nothing_left o ≡ true
unfolding nothing_left
nothing_left_obeyed b obeys none e = refl
nothing_left_obeyed b obeys (some f) e = let (i, unshown) = find_sound (view b) f e in absurd (unshown (obeys f i))

module _ (b : Board) where
  parts : passes b ≡ true → (within_limits b ≡ true) × (books_limits b.books ≡ true) × (nothing_left (find (view b)) ≡ true)
  unfolding passes
  parts e =
      let (limits, left) = and_parts (within_limits b && books_limits b.books) (nothing_left (find (view b))) e in
      let (own, books) = and_parts (within_limits b) (books_limits b.books) limits in
      (own, books, left)

  pub passes_within : passes b ≡ true → Within b
  passes_within e = limits_yes b (parts e).0

  pub passes_books : passes b ≡ true → BooksWithin b.books
  passes_books e = (decides_books b.books).yes (parts e).1

  pub passes_obeys : passes b ≡ true → Obeys (view b)
  passes_obeys e = find_complete (view b) (lengths b (passes_within e)) (settled_none (find (view b)) (parts e).2)

  -- such a board is its own closure
  pub closed_already : passes b ≡ true → closure b ≡ some b
  closed_already e = let within = passes_within e in sym (derived_closure b b within (derived_self b within) (passes_obeys e))

  pub obeys_passes : Within b → BooksWithin b.books → Obeys (view b) → passes b ≡ true
  unfolding passes
  obeys_passes within books obeys =
      and_both (within_limits b && books_limits b.books) (nothing_left (find (view b)))
      (and_both (within_limits b) (books_limits b.books) (limits_show b within) ((decides_books b.books).show books))
      (nothing_left_obeyed b obeys (find (view b)) refl)

  -- "a board handed in that passes check 0 is the least closed board over what it shows"
  pub passes_least : passes b ≡ true → Least (shown (view b)) b
  passes_least e = handed_in b (passes_within e) (passes_books e) (obeys_rules (view b) (passes_obeys e))

  pub passes_closed : (passes b ≡ true) ↔ Closed (shown (view b)) b
  passes_closed = (λ e. (passes_least e).closed, λ c. obeys_passes c.within c.books (rules_obey (view b) c.rules))

pub empty_passes : (books : Books) → BooksWithin books → passes (empty_board books) ≡ true
empty_passes books h = obeys_passes (empty_board books) (within_empty books) h (empty_obeys (view (empty_board books)) refl)
