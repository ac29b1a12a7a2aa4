-- Entries, what it means that a board shows them, and the order of boards by how much they show.
use Rattle.std.specs.Prelude.{◌≡◌, ◌≢◌, ℕ, ◌<◌, ◌≤◌, ◌≤ℤ◌}
use Rattle.paper_board.specs.Paper.View.{Row, View, Arc}
use Rattle.paper_board.specs.Paper.Facts.{Fact, is_arc, Holds, AboutJobs}
use Rattle.paper_board.specs.Paper.Limits.{job_limit, Fits}

-- The jobs added, in order, each with its length, window and mark, and a set of facts stated of them.
pub record Entries : Type 1 where
  pub jobs : ℕ
  pub row : ℕ → Row
  pub facts : Fact → Type 0

-- Entries that pass the checks of the table: no more jobs than a board holds, lengths and times within the limits, and
-- facts about jobs added. A row marked 2 is that of a board handed in, and holds no length or time.
pub record Admissible (es : Entries) : Type 0 where
  pub jobs : es.jobs ≤ job_limit
  pub rows : (k : ℕ) → k < es.jobs → (es.row k).mark ≢ 2 → Fits (es.row k)
  pub about : (f : Fact) → es.facts f → AboutJobs es.jobs f

-- The board's row s shows the entered row r: "with their lengths, with every mark of 1 or 2 [..] and with windows inside
-- all those entered"; of an invalid job the length and the window count as shown.
pub record Shown (r s : Row) : Type 0 where
  pub valid : r.mark ≡ 1 → s.mark ≡ 1
  pub invalid : r.mark ≡ 2 → s.mark ≡ 2
  pub length : s.mark ≢ 2 → s.length ≡ r.length
  pub earliest : s.mark ≢ 2 → r.earliest ≤ℤ s.earliest
  pub latest : s.mark ≢ 2 → s.latest ≤ℤ r.latest

-- A view shows at least the entries: it may have further jobs, added later.
pub record AtLeast (es : Entries) (v : View) : Type 0 where
  pub jobs : es.jobs ≤ v.jobs
  pub rows : (k : ℕ) → k < es.jobs → Shown (es.row k) (v.row k)
  pub facts : (f : Fact) → es.facts f → Holds v f

-- "A board shows entries when its jobs are just those added, in order, with their lengths, with every mark of 1 or 2 and
-- every arc entered, and with windows inside all those entered."
pub record Shows (es : Entries) (v : View) : Type 0 where
  pub count : v.jobs ≡ es.jobs
  pub at_least : AtLeast es v

-- the arcs that a view shows
pub data Drawn (v : View) : Fact → Type 0 where
  drawn : (i k : ℕ) → Arc v i k → Drawn v (is_arc i k)

-- "A board handed in to a call counts as the entries that it shows."
abbrev pub shown : View → Entries
shown v = record { jobs = v.jobs; row = v.row; facts = Drawn v }

-- Boards are ordered by how much they show: v ⊑ w when the "arcs, raised E, lowered D and invalid marks" of v are in w, its
-- valid marks and lengths too, "where a job that the other board has invalid is not compared".
infix 40 ◌⊑◌
abbrev pub ◌⊑◌ : View → View → Type 0
v ⊑ w = AtLeast (shown v) w
