-- Closed boards, the least closed board, and contradiction.
use Rattle.std.specs.Prelude.{◌≡◌, ◌≢◌, ℕ, ◌<◌, ◌≤ℤ◌}
use Rattle.paper_board.specs.declared.Board.{Board}
use Rattle.paper_board.specs.Paper.View.{View, Live, Valid, Arc, view}
use Rattle.paper_board.specs.Paper.Facts.{is_valid}
use Rattle.paper_board.specs.Paper.Limits.{Within, BooksWithin}
use Rattle.paper_rules.specs.Paper.Rules.{Rules, E, D}
use Rattle.paper_rules.specs.Paper.Entries.{Entries, Shows, ◌⊑◌}

-- "A board is closed over the entries when it shows them and also" keeps R1 to R6.
pub record Closed (es : Entries) (b : Board) : Type 0 where
  pub within : Within b
  pub books : BooksWithin b.books
  pub shows : Shows es (view b)
  pub rules : Rules (view b)

-- The "arcs, raised E, lowered D and invalid marks" of v are in w, "where a job that the other board has invalid is not
-- compared".
pub record Included (v w : View) : Type 0 where
  pub arcs : (i k : ℕ) → Arc v i k → Live w i → Live w k → Arc w i k
  pub raised : (j : ℕ) → j < v.jobs → (w.row j).mark ≢ 2 → E v j ≤ℤ E w j
  pub lowered : (j : ℕ) → j < v.jobs → (w.row j).mark ≢ 2 → D w j ≤ℤ D v j
  pub invalid : (j : ℕ) → j < v.jobs → (v.row j).mark ≡ 2 → (w.row j).mark ≡ 2

-- "The least closed board is that closed board whose arcs, raised E, lowered D and invalid marks are in every closed board".
pub record LeastClosed (es : Entries) (b : Board) : Type 0 where
  pub closed : Closed es b
  pub least : (c : Board) → Closed es c → Included (view b) (view c)
  -- "Only an entry makes a job valid."
  pub entered : (j : ℕ) → (j < es.jobs → (es.row j).mark ≢ 1) → (es.facts (is_valid j) → ⊥) → Valid (view b) j → ⊥

-- The same by the order of boards, which compares valid marks and lengths too and so needs no word on who makes a job valid: the
-- proofs go by this one. Theorems `least_closed` and `closed_least` say that the two are the same.
pub record Least (es : Entries) (b : Board) : Type 0 where
  pub closed : Closed es b
  pub least : (c : Board) → Closed es c → view b ⊑ view c

-- "If no closed board exists, the closure is a contradiction."
abbrev pub Contradiction : Entries → Type 0
Contradiction es = (c : Board) → Closed es c → ⊥
