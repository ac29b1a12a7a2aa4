-- The words of the jobs that lie beyond each job on side s: those before it, or those after it.
use Rattle.std.specs.Prelude.{List, ℕ}
use Rattle.paper_board.specs.Paper.View.{Side, early, late}

abbrev pub words_on : Side → List ℕ → List ℕ → List ℕ
words_on early before after = before
words_on late before after = after
