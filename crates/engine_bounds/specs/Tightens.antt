-- What a bound that is new does: it is put on the window where that leaves room for the job, else the job is excluded (R6).
use Rattle.std.specs.Prelude.{◌≡◌, Bool, true, false, ℕ, ◌<◌, ℤ, ◌+ℤ◌, set}
use Rattle.std.proofs.Common.{ap, sym, ◌∙◌}
use Rattle.std.proofs.Math.Option.{some}
use Rattle.std.proofs.lemmas.List.{set-get_or}
use Rattle.std.specs.Int.Signed.{le_z}
use Rattle.std.proofs.lemmas.Int.{to_z-of_z}
use Rattle.paper_board.specs.declared.Board.{Board}
use Rattle.paper_board.specs.Paper.View.{Side, row_of}
use Rattle.paper_board.specs.Paper.Facts.{is_bound}
use Rattle.paper_board.specs.Paper.Parts.{filled}
use Rattle.paper_board.specs.Paper.Values.{turned}
use Rattle.paper_rules.specs.Update.Updates.{exclude, tighten, update}
use Rattle.paper_rules.specs.Update.Shown.{bound_shown, bound_shown_before, bound_new}
use Rattle.engine_windows.specs.declared.Window.{Window}
use Rattle.engine_windows.specs.Windows.{bounded, window_of, moved}
use Rattle.engine_windows.specs.WindowLaws.{bounded_moderate, moved_raised}

-- whether the board c shows the bound; else the job is to be excluded from the board as it was
abbrev pub Tightens : Side → ℕ → ℤ → Board → Bool → Board → Type 0
Tightens s j z b true c = update b (is_bound s j z) ≡ some c
Tightens s j z b false c = (update b (is_bound s j z) ≡ exclude b j) × (c ≡ b)

-- the same on any board with job j that has the windows, lengths and marks of `old`, which become those of `new`
abbrev pub TightensOnAny : Side → ℕ → ℤ → Board → Bool → Board → Type 0
TightensOnAny s j z old r new =
    (b : Board) → j < b.jobs
    → Tightens s j z (filled b old.lengths old.earliest old.latest old.marks b.after b.before) r
    (filled b new.lengths new.earliest new.latest new.marks b.after b.before)

module _ (b : Board) (s : Side) (j : ℕ) (t : ℤ) (job : j < b.jobs) (new : bound_shown s (turned s t) (row_of b j) ≡ false) where
  -- the window that job j is given
  abbrev smaller : Window
  smaller = bounded s t (window_of (row_of b j))

  tightens : update b (is_bound s j (turned s t)) ≡ tighten b j (moved smaller (row_of b j))
  tightens = bound_new b s j (turned s t) job new ∙ ap (tighten b j) (sym (moved_raised s t (row_of b j)))

  -- the ends are stored; the rest of the row stays
  pub bound_fits : le_z (smaller.earliest +ℤ (row_of b j).length) smaller.latest ≡ true
      → update b (is_bound s j (turned s t))
      ≡ some (filled b b.lengths (set b.earliest j smaller.earliest) (set b.latest j smaller.latest) b.marks b.after b.before)
  unfolding tighten
  bound_fits room = tightens ∙ rw room (simp set-get_or)

  pub bound_cramped : le_z (smaller.earliest +ℤ (row_of b j).length) smaller.latest ≡ false → update b (is_bound s j (turned s t)) ≡ exclude b j
  unfolding tighten
  bound_cramped room = tightens ∙ rw room

pub ruleset tightening = (bound_shown_before, bound_fits, bound_cramped, bounded_moderate, to_z-of_z)
