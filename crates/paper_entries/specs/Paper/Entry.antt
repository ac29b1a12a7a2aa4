-- The four sorts of entry, with any numbers, and what a list of them states.
use Rattle.std.specs.Prelude.{◌≡◌, ◌⊎◌, ◌↔◌, cond, ℕ, suc, eqb, ℤ, neg_ℤ, length, get_or}
use mathlib.Core.List.{List, [], ◌∷◌, Memᴰ}
use Rattle.ground_arithmetic.specs.Linear.{above}
use Rattle.paper_board.specs.Paper.View.{Row, early, late}
use Rattle.paper_board.specs.Paper.Facts.{Fact, is_arc, is_bound, is_valid, is_invalid}
use Rattle.paper_rules.specs.Paper.Entries.{Entries}
use Rattle.paper_board.specs.Paper.Limits.{zero_row}

-- an entry about jobs that are on the board
pub data Statement : Type 0 where
  -- "Arc A to B: if both take place, A ends no later than B starts."
  arc : ℤ → ℤ → Statement
  -- "Mark a job 1 or 2."
  mark : ℤ → ℤ → Statement
  -- "Cut a job with a window E, D: the later E and the earlier D hold."
  cut : ℤ → ℤ → ℤ → Statement

pub data Entry : Type 0 where
  -- "Addition: length, E, D, mark 0 or 1"
  addition : ℤ → ℤ → ℤ → ℤ → Entry
  -- an arc, a mark or a cut
  other : Statement → Entry

-- The natural number that z is. It is read off numbers that have passed the checks of the table, and those are not negative.
abbrev pub number : ℤ → ℕ
number z = above z

-- the row that an addition names
abbrev pub added_row : ℤ → ℤ → ℤ → ℤ → Row
added_row l e d m = record { mark = number m; length = l; earliest = e; latest = d }

-- the facts that a statement states
abbrev pub stated : Statement → List Fact
stated (arc a b) = is_arc (number a) (number b) ∷ []
stated (mark j m) = cond (eqb (number m) 1) (is_valid (number j)) (is_invalid (number j)) ∷ []
stated (cut j e d) = is_bound early (number j) e ∷ is_bound late (number j) (neg_ℤ d) ∷ []

-- the jobs added, in order
unfoldable pub additions : List Entry → List Row
additions [] = []
additions (addition l e d m ∷ es) = added_row l e d m ∷ additions es
additions (other s ∷ es) = additions es

-- one of the entries states the fact
pub record Stated (es : List Entry) (f : Fact) : Type 0 where
  pub statement : Statement
  pub made : Memᴰ (other statement) es
  pub states : Memᴰ f (stated statement)

-- the entries of a list: jobs in the order of their additions, the other entries as a set
abbrev pub entries : List Entry → Entries
entries es =
    record { jobs = length (additions es); row = λ k. get_or (additions es) k (zero_row 0); facts = Stated es }

-- "Jobs are the same if their additions name the same length, window and mark; other entries are the same if they are of
-- one sort with the same numbers": the same jobs in the same order, and the same set of other entries.
pub record SameEntries (l l' : List Entry) : Type 0 where
  pub jobs : additions l ≡ additions l'
  pub others : (s : Statement) → Memᴰ (other s) l ↔ Memᴰ (other s) l'

-- a job added after the others
abbrev pub add_row : Entries → Row → Entries
add_row es r = record { jobs = suc es.jobs; row = λ k. cond (eqb k es.jobs) r (es.row k); facts = es.facts }

-- facts stated of the jobs added
abbrev pub stating : Entries → List Fact → Entries
stating es fs = record { jobs = es.jobs; row = es.row; facts = λ f. es.facts f ⊎ Memᴰ f fs }

-- the entries with one more
abbrev pub with_entry : Entries → Entry → Entries
with_entry es (addition l e d m) = add_row es (added_row l e d m)
with_entry es (other s) = stating es (stated s)
