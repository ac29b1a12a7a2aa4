-- The test of the limits decides them: what each part of the test says, and that the parts together say `Within`. The test
-- looks at the places and pairs of the board, and `Within` speaks of every number.
use Rattle.std.specs.Prelude.{◌≡◌, ◌≢◌, true, List, ℕ, ◌^◌, ◌<◌, ◌≤◌, ℤ, pos, length, get_or, ◌≤ℤ◌}
use Rattle.std.proofs.Common.{sym, ◌∙◌, ap, arith}
use Rattle.std.proofs.Math.Decide.{dec_lt}
use Rattle.std.proofs.Math.ListN.{get_or-eq_default}
use Rattle.ground_arithmetic.specs.Bools.{is_false, refuted, same_tests}
use Rattle.ground_sets.specs.Bit.{bit}
use Rattle.ground_sets.specs.BitLaws.{bit_high, bit_zero, bits_bound}
use Rattle.ground_arithmetic.specs.Linear.{whole}
use Rattle.paper_board.specs.declared.Board.{Board}
use Rattle.paper_board.specs.declared.Books.{Books}
use Rattle.paper_board.specs.Paper.View.{Row, view, row_of, arc_of, arc_into_of, Live, Arc}
use Rattle.paper_board.specs.Paper.Limits.{job_limit, tally_limit, IsTime, IsLength, Fits, zero_row, RowLimits, Shape, Within, BooksWithin}
use Rattle.paper_board.specs.Paper.Tests.{between, is_time, is_length}
use Rattle.paper_board.specs.BoardTests.WithinLimits.{is_zero, fits, is_zero_row, full, shape, holds_job, holds_nothing, joinable, agrees, within_limits, books_limits}
use Rattle.paper_board.specs.BoardTests.Decides.{Decides, restated, ◌and◌, implied, negated, every, holds, le, lt, eq, same, live_is, at_most}

-- ---- rows

pub decides_between : (low high z : ℤ) → Decides (between low high z) ((low ≤ℤ z) × (z ≤ℤ high))
unfolding between
decides_between low high z = at_most low z and at_most z high

pub decides_time : (z : ℤ) → Decides (is_time z) (IsTime z)
decides_time z = restated (decides_between _ _ z) (λ h. omega whole) (λ h. omega whole)

pub decides_length : (z : ℤ) → Decides (is_length z) (IsLength z)
decides_length z = restated (decides_between _ _ z) (λ h. omega whole) (λ h. omega whole)

pub decides_zero : (z : ℤ) → Decides (is_zero z) (z ≡ pos 0)
unfolding is_zero
decides_zero z = record { yes = λ e. omega whole; show = λ h. omega whole }

pub decides_fits : (r : Row) → Decides (fits r) (Fits r)
unfolding fits
decides_fits r =
    restated (decides_length r.length and decides_time r.earliest and decides_time r.latest)
    (λ h. omega whole)
    (λ h. omega whole)

pub decides_zero_row : (m : ℕ) (r : Row) → Decides (is_zero_row m r) (r ≡ zero_row m)
unfolding is_zero_row
decides_zero_row m r =
    restated (eq r.mark m and decides_zero r.length and decides_zero r.earliest and decides_zero r.latest)
    (λ h i. record { mark = h.0.0.0 i; length = h.0.0.1 i; earliest = h.0.1 i; latest = h.1 i })
    (λ e. (((ap (λ x. x.mark) e, ap (λ x. x.length) e), ap (λ x. x.earliest) e), ap (λ x. x.latest) e))

-- ---- places

decides_full : {A : Type 0} (l : List A) → Decides (full l) (length l ≡ job_limit)
unfolding full
decides_full l = eq (length l) job_limit

decides_shape : (b : Board) → Decides (shape b) (Shape b)
unfolding shape
decides_shape b =
    restated
    (decides_full b.lengths and decides_full b.earliest and decides_full b.latest
    and decides_full b.marks and decides_full b.after and decides_full b.before)
    (λ h. omega arith)
    (λ h. omega arith)

-- what is tested of a place with a job
record Job (b : Board) (k : ℕ) : Type 0 where
  mark : (row_of b k).mark ≤ 2
  live : Live (view b) k → Fits (row_of b k)
  invalid : (row_of b k).mark ≡ 2 → row_of b k ≡ zero_row 2
  after : get_or b.after k 0 < 2 ^ b.jobs
  before : get_or b.before k 0 < 2 ^ b.jobs

decides_job : (b : Board) (k : ℕ) → Decides (holds_job b k) (Job b k)
unfolding holds_job
decides_job b k =
    let r = row_of b k in
    restated
    (le r.mark 2
    and implied (live_is (view b) k) (decides_fits r)
    and implied (eq r.mark 2) (decides_zero_row 2 r)
    and lt (get_or b.after k 0) (2 ^ b.jobs)
    and lt (get_or b.before k 0) (2 ^ b.jobs))
    (λ h. search)
    (λ h. search)

-- what is tested of a place without a job
record Blank (b : Board) (k : ℕ) : Type 0 where
  row : row_of b k ≡ zero_row 0
  after : get_or b.after k 0 ≡ 0
  before : get_or b.before k 0 ≡ 0

decides_blank : (b : Board) (k : ℕ) → Decides (holds_nothing b k) (Blank b k)
unfolding holds_nothing
decides_blank b k =
    restated (decides_zero_row 0 (row_of b k) and eq (get_or b.after k 0) 0 and eq (get_or b.before k 0) 0)
    (λ h. search)
    (λ h. search)

-- ---- pairs

abbrev Joinable : Board → ℕ → ℕ → Type 0
Joinable b i k = Live (view b) i × Live (view b) k × (i ≢ k)

decides_joinable : (b : Board) (i k : ℕ) → Decides (joinable b i k) (Joinable b i k)
unfolding joinable
decides_joinable b i k = restated (live_is (view b) i and live_is (view b) k and negated (eq i k)) (λ h. search) (λ h. search)

-- what is tested of two jobs
record Pair (b : Board) (i k : ℕ) : Type 0 where
  arc : Arc (view b) i k → Joinable b i k
  twice : arc_into_of b k i ≡ arc_of b i k

decides_pair : (b : Board) (i k : ℕ) → Decides (agrees b i k) (Pair b i k)
unfolding agrees
decides_pair b i k =
    restated
    (implied (holds (arc_of b i k)) (decides_joinable b i k) and same (arc_into_of b k i) (arc_of b i k))
    (λ h. search)
    (λ h. search)

-- ---- the board

-- all that is tested
record Tested (b : Board) : Type 0 where
  shape : Shape b
  jobs : b.jobs ≤ job_limit
  job : (k : ℕ) → k < b.jobs → Job b k
  blank : (k : ℕ) → k < job_limit → b.jobs ≤ k → Blank b k
  pair : (i : ℕ) → i < b.jobs → (k : ℕ) → k < b.jobs → Pair b i k

decides_tested : (b : Board) → Decides (within_limits b) (Tested b)
unfolding within_limits
decides_tested b =
    restated
    (decides_shape b
    and le b.jobs job_limit
    and every b.jobs (decides_job b)
    and every job_limit (λ k. implied (le b.jobs k) (decides_blank b k))
    and every b.jobs (λ i. every b.jobs (decides_pair b i)))
    (λ h. search)
    (λ h. search)

-- ---- words

-- Of a list of words: only those below n have members, and only members below n.
abbrev Inside : ℕ → List ℕ → Type 0
Inside n words = (i k : ℕ) → bit (get_or words i 0) k ≡ true → (i < n) × (k < n)

inside : (n : ℕ) (words : List ℕ)
    → ((k : ℕ) → k < n → get_or words k 0 < 2 ^ n) → ((k : ℕ) → n ≤ k → get_or words k 0 ≡ 0) → Inside n words
inside n words low blank i k e = go (dec_lt i n) (dec_lt k n)
  where
    go : Dec (i < n) → Dec (k < n) → (i < n) × (k < n)
    go (yes li) (yes lk) = (li, lk)
    go (yes li) (no lk) = absurd (refuted (bit_high n (get_or words i 0) k (low i li) (omega arith)) e)
    go (no li) d = absurd (refuted (bit_zero k) (rw (blank i (omega arith)) at e))

word_below : (n w : ℕ) → ((k : ℕ) → bit w k ≡ true → k < n) → w < 2 ^ n
word_below n w h = bits_bound n w λ k l. is_false (bit w k) λ e. omega (arith, h k e)

module _ (n : ℕ) (words : List ℕ) (within : Inside n words) where
  inside_low : (i : ℕ) → get_or words i 0 < 2 ^ n
  inside_low i = word_below n (get_or words i 0) λ k e. (within i k e).1

  inside_blank : (i : ℕ) → n ≤ i → get_or words i 0 ≡ 0
  inside_blank i l = omega (arith, word_below 0 (get_or words i 0) λ k e. omega (arith, (within i k e).0))

-- ---- from what is tested to the limits, and back

-- past the 64 places everything reads 0
pub past : {A : Type 0} (xs : List A) (d : A) → length xs ≡ job_limit → (k : ℕ) → job_limit ≤ k → get_or xs k d ≡ d
past xs d e k l = get_or-eq_default xs d (omega arith)

pub past_row : (b : Board) → Shape b → (k : ℕ) → job_limit ≤ k → row_of b k ≡ zero_row 0
past_row b s k l i =
    record {
      mark = past b.marks 0 s.marks k l i;
      length = past b.lengths (pos 0) s.lengths k l i;
      earliest = past b.earliest (pos 0) s.earliest k l i;
      latest = past b.latest (pos 0) s.latest k l i;
    }

module _ (b : Board) (t : Tested b) where
  -- a place past the jobs, also one past the 64
  blank : (k : ℕ) → b.jobs ≤ k → Blank b k
  blank k l = go (dec_lt k job_limit)
    where
      go : Dec (k < job_limit) → Blank b k
      go (yes h) = t.blank k h l
      go (no h) =
          record {
            row = past_row b t.shape k (omega arith);
            after = past b.after 0 t.shape.after k (omega arith);
            before = past b.before 0 t.shape.before k (omega arith);
          }

  tested_within : Within b
  tested_within =
      record {
        shape = t.shape;
        limits = record { jobs = t.jobs; rows = rows; arcs = λ i k e. let (li, lk) = after i k e in (t.pair i li k lk).arc e };
        twice = λ i k.
            same_tests (arc_into_of b k i) (arc_of b i k)
            (λ e. let (lk, li) = before k i e in sym (t.pair i li k lk).twice ∙ e)
            (λ e. let (li, lk) = after i k e in (t.pair i li k lk).twice ∙ e);
      }
    where
      after : Inside b.jobs b.after
      after = inside b.jobs b.after (λ k l. (t.job k l).after) (λ k l. (blank k l).after)

      before : Inside b.jobs b.before
      before = inside b.jobs b.before (λ k l. (t.job k l).before) (λ k l. (blank k l).before)

      mark : (k : ℕ) → Dec (k < b.jobs) → (row_of b k).mark ≤ 2
      mark k (yes l) = (t.job k l).mark
      mark k (no l) = omega (arith, ap (λ x. x.mark) (blank k (omega arith)).row)

      rows : (k : ℕ) → RowLimits b.jobs k (row_of b k)
      rows k =
          record {
            mark = mark k (dec_lt k b.jobs);
            live = λ l m. (t.job k l).live (l, m);
            invalid = λ l. (t.job k l).invalid;
            blank = λ l. (blank k l).row;
          }

within_tested : (b : Board) → Within b → Tested b
within_tested b w =
    record {
      shape = w.shape;
      jobs = w.limits.jobs;
      job = λ k l.
          record {
            mark = (w.limits.rows k).mark;
            live = λ h. (w.limits.rows k).live l h.1;
            invalid = (w.limits.rows k).invalid l;
            after = inside_low b.jobs b.after after k;
            before = inside_low b.jobs b.before before k;
          };
      blank = λ k h l.
          record {
            row = (w.limits.rows k).blank l;
            after = inside_blank b.jobs b.after after k l;
            before = inside_blank b.jobs b.before before k l;
          };
      pair = λ i li k lk. record { arc = w.limits.arcs i k; twice = w.twice i k };
    }
  where
    after : Inside b.jobs b.after
    after i k e = let (x, y, n) = w.limits.arcs i k e in (x.0, y.0)

    before : Inside b.jobs b.before
    before k i e = let (x, y, n) = w.limits.arcs i k (sym (w.twice i k) ∙ e) in (y.0, x.0)

pub decides_limits : (b : Board) → Decides (within_limits b) (Within b)
decides_limits b = restated (decides_tested b) (tested_within b) (within_tested b)

pub limits_yes : (b : Board) → within_limits b ≡ true → Within b
limits_yes b = (decides_limits b).yes

pub limits_show : (b : Board) → Within b → within_limits b ≡ true
limits_show b = (decides_limits b).show

pub decides_books : (books : Books) → Decides (books_limits books) (BooksWithin books)
decides_books books = restated (le books.tally tally_limit) (λ h. record { tally = h }) (λ h. h.tally)
