-- A view within the limits is the view of a board, with its rows and arcs written out in lists and words. So what the
-- paper says of every closed board it says of every such view.
use Rattle.std.specs.Prelude.{◌≡◌, refl, Bool, true, false, ◌&&◌, List, [], ◌∷◌, ℕ, zero, suc, ◌<◌, ◌≤◌, ltb, get_or}
use Rattle.std.proofs.Math.Path.{sym, ap, subst⁻¹}
use Rattle.std.proofs.Common.{◌∙◌, subst, arith, lt-ltb}
use Rattle.std.proofs.Math.Bool.{and-false}
use Rattle.std.proofs.Math.ListN.{length}
use Rattle.ground_arithmetic.specs.Bools.{is_false}
use Rattle.ground_sets.specs.Bit.{bit, set_of}
use Rattle.ground_sets.specs.BitLaws.{bit_zero, bit_ext, bit_set_of}
use Rattle.paper_board.specs.declared.Board.{Board}
use Rattle.paper_board.specs.declared.Books.{Books}
use Rattle.paper_board.specs.Paper.Parts.{of_parts, empty_books}
use Rattle.paper_board.specs.Paper.View.{Row, View, Arc, view, arc_of, arc_into_of}
use Rattle.paper_board.specs.Paper.Limits.{job_limit, zero_row, Limited, Shape, Within}
use Rattle.paper_rules.specs.Paper.Entries.{Entries, Shows, ◌⊑◌}
use Rattle.paper_rules.specs.Paper.Closed.{Closed, Least}
use Rattle.paper_rules.specs.Inference.Infers.{Obeys}
use Rattle.paper_rules.proofs.ObeysRules.{obeys_rules}
use Rattle.paper_rules.specs.Order.Empty.{within_empty_books}

-- ---- lists and words

-- f 0 to f (n - 1)
unfoldable pub tabulate : {A : Type 0} → ℕ → (ℕ → A) → List A
tabulate zero f = []
tabulate (suc n) f = f 0 ∷ tabulate n (λ k. f (suc k))

length_tabulate : {A : Type 0} (n : ℕ) (f : ℕ → A) → length (tabulate n f) ≡ n
unfolding tabulate
length_tabulate zero f = refl
length_tabulate (suc n) f = ap suc (length_tabulate n (λ k. f (suc k)))

-- where f is d past the list, reading the list reads f
get_d_tabulate : {A : Type 0} (n : ℕ) (f : ℕ → A) (k : ℕ) (d : A) → (n ≤ k → f k ≡ d) → get_or (tabulate n f) k d ≡ f k
unfolding tabulate
get_d_tabulate zero f k d past = sym (past (omega arith))
get_d_tabulate (suc n) f zero d past = refl
get_d_tabulate (suc n) f (suc k) d past = get_d_tabulate n (λ j. f (suc j)) k d λ l. past (omega arith)

-- a relation between the numbers below 64, as a word for each
unfoldable pub words_of : (ℕ → ℕ → Bool) → List ℕ
words_of a = tabulate job_limit (λ i. set_of job_limit (a i))

module _ (a : ℕ → ℕ → Bool) (low : (i k : ℕ) → a i k ≡ true → (i < job_limit) × (k < job_limit)) where
  member : (i k : ℕ) → bit (set_of job_limit (a i)) k ≡ a i k
  member i k = bit_set_of job_limit (a i) k ∙ go (a i k) refl
    where
      go : (t : Bool) → a i k ≡ t → (ltb k job_limit && t) ≡ t
      go true e = rw (lt-ltb k job_limit (low i k e).1)
      go false e = and-false (ltb k job_limit)

  words_of_bit : (i k : ℕ) → bit (get_or (words_of a) i 0) k ≡ a i k
  unfolding words_of
  words_of_bit i k = ap (λ w. bit w k) (get_d_tabulate job_limit (λ j. set_of job_limit (a j)) i 0 past) ∙ member i k
    where
      past : job_limit ≤ i → set_of job_limit (a i) ≡ 0
      past l = bit_ext (set_of job_limit (a i)) 0 λ j. member i j ∙ is_false (a i j) (λ e. omega (arith, (low i j e).0)) ∙ sym (bit_zero j)

-- ---- the board

-- one part of each row
unfoldable pub column : {A : Type 0} → View → (Row → A) → List A
column v f = tabulate job_limit (λ k. f (v.row k))

unfoldable pub board_of : View → Books → Board
board_of v books =
    of_parts v.jobs
    (column v (λ r. r.length))
    (column v (λ r. r.earliest))
    (column v (λ r. r.latest))
    (column v (λ r. r.mark))
    (words_of v.arc)
    (words_of (λ k i. v.arc i k))
    books

module _ (v : View) (books : Books) (limits : Limited v) where
  column_at : {A : Type 0} (f : Row → A) (k : ℕ) → get_or (column v f) k (f (zero_row 0)) ≡ f (v.row k)
  unfolding column
  column_at f k =
      get_d_tabulate job_limit (λ j. f (v.row j)) k (f (zero_row 0)) λ l. ap f ((limits.rows k).blank (omega arith))

  low : (i k : ℕ) → Arc v i k → (i < job_limit) × (k < job_limit)
  low i k a = let (li, lk, ne) = limits.arcs i k a in omega arith

  after_bit : (i k : ℕ) → arc_of (board_of v books) i k ≡ v.arc i k
  unfolding board_of
  after_bit = words_of_bit v.arc low

  before_bit : (i k : ℕ) → arc_into_of (board_of v books) k i ≡ v.arc i k
  unfolding board_of
  before_bit i k = words_of_bit (λ y x. v.arc x y) (λ y x a. let (lx, ly) = low x y a in (ly, lx)) k i

  board_of_view : view (board_of v books) ≡ v
  unfolding board_of
  board_of_view =
      λ i. record {
        jobs = v.jobs;
        row = λ k.
            record {
              mark = column_at (λ r. r.mark) k i;
              length = column_at (λ r. r.length) k i;
              earliest = column_at (λ r. r.earliest) k i;
              latest = column_at (λ r. r.latest) k i;
            };
        arc = λ x y. after_bit x y i;
      }

  board_of_shape : Shape (board_of v books)
  unfolding board_of column words_of
  board_of_shape =
      record {
        lengths = length_tabulate _ _;
        earliest = length_tabulate _ _;
        latest = length_tabulate _ _;
        marks = length_tabulate _ _;
        after = length_tabulate _ _;
        before = length_tabulate _ _;
      }

  board_of_within : Within (board_of v books)
  unfolding board_of
  board_of_within =
      record {
        shape = board_of_shape;
        limits = subst⁻¹ Limited board_of_view limits;
        twice = λ i k. before_bit i k ∙ sym (after_bit i k);
      }

-- ---- closed boards from views

-- a view within the limits that shows the entries and obeys the rules makes a closed board
pub closed_board : (es : Entries) (v : View) → Limited v → Shows es v → Obeys v → Closed es (board_of v empty_books)
unfolding board_of
closed_board es v limits shows obeys =
    let is = board_of_view v empty_books limits in
    record {
      within = board_of_within v empty_books limits;
      books = within_empty_books;
      shows = subst⁻¹ (Shows es) is shows;
      rules = obeys_rules _ (subst⁻¹ Obeys is obeys);
    }

-- and then what the least closed board shows is in the view
pub least_below : (es : Entries) (b : Board) → Least es b → (v : View) → Limited v → Closed es (board_of v empty_books) → view b ⊑ v
least_below es b least v limits closed =
    subst (λ w. view b ⊑ w) (board_of_view v empty_books limits) (least.least (board_of v empty_books) closed)
