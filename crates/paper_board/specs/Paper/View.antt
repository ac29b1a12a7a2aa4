-- What the rules read of a board: its jobs, a row for each job, and its arcs.
use Rattle.std.specs.Prelude.{◌≡◌, ◌≢◌, Bool, true, ℕ, ◌<◌, ℤ, pos, neg_ℤ, get_or}
use Rattle.ground_sets.specs.Bit.{bit}
use Rattle.paper_board.specs.declared.Board.{Board}

-- "A job has a length, an earliest start E, a latest end D and a mark: 0 undecided, 1 valid, 2 invalid."
pub record Row : Type 0 where
  pub mark : ℕ
  pub length : ℤ
  pub earliest : ℤ
  pub latest : ℤ

-- Jobs are numbered from 0; `row j` is asked of numbers below `jobs`, and `arc a b` says that there is an arc a to b.
pub record View : Type 0 where
  pub jobs : ℕ
  pub row : ℕ → Row
  pub arc : ℕ → ℕ → Bool

-- "Live" means not marked 2.
abbrev pub Live : View → ℕ → Type 0
Live v j = (j < v.jobs) × ((v.row j).mark ≢ 2)

abbrev pub Valid : View → ℕ → Type 0
Valid v j = (j < v.jobs) × ((v.row j).mark ≡ 1)

abbrev pub Invalid : View → ℕ → Type 0
Invalid v j = (j < v.jobs) × ((v.row j).mark ≡ 2)

abbrev pub Arc : View → ℕ → ℕ → Type 0
Arc v a b = v.arc a b ≡ true

-- A window has two sides. Closing can only raise a bound: E early, and D with its sign turned late.
pub data Side : Type 0 where
  early late : Side

abbrev pub bound : Side → Row → ℤ
bound early r = r.earliest
bound late r = neg_ℤ r.latest

-- k lies on side s of j: it has an arc to j, or j has an arc to it.
abbrev pub Beyond : View → Side → ℕ → ℕ → Type 0
Beyond v early k j = Arc v k j
Beyond v late k j = Arc v j k

-- the row of place k; past the arrays it reads 0
abbrev pub row_of : Board → ℕ → Row
row_of b k =
    record {
      mark = get_or b.marks k 0;
      length = get_or b.lengths k (pos 0);
      earliest = get_or b.earliest k (pos 0);
      latest = get_or b.latest k (pos 0);
    }

-- "The set is one 64-bit word with bit k for job k.": job k is in the set after i, and i in the set before k
abbrev pub arc_of : Board → ℕ → ℕ → Bool
arc_of b i k = bit (get_or b.after i 0) k

abbrev pub arc_into_of : Board → ℕ → ℕ → Bool
arc_into_of b k i = bit (get_or b.before k 0) i

-- what a board shows
abbrev pub view : Board → View
view b = record { jobs = b.jobs; row = row_of b; arc = arc_of b }
