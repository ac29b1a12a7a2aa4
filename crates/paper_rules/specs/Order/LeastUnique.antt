-- The least closed board over entries is unique: within the limits the order of boards is antisymmetric, and equal boards
-- are the same value.
use Rattle.std.specs.Prelude.{◌≡◌, ◌≢◌, ℕ, ◌<◌, ◌≤◌, pos}
use Rattle.std.proofs.Common.{sym, ◌∙◌, arith, ext_get_or}
use Rattle.std.proofs.Math.Decide.{dec_lt, ℕ_discrete}
use Rattle.ground_sets.specs.BitLaws.{bit_ext}
use Rattle.ground_arithmetic.specs.Bools.{same_tests}
use Rattle.ground_arithmetic.specs.Linear.{whole}
use Rattle.paper_board.specs.declared.Board.{Board}
use Rattle.paper_board.specs.Paper.View.{Row, Live, Arc, view, row_of, arc_of}
use Rattle.paper_board.specs.Paper.Limits.{Within}
use Rattle.paper_board.specs.Paper.Parts.{of_parts}
use Rattle.paper_board.specs.Paper.Equality.{Alike, Same, EqualBoards}
use Rattle.paper_rules.specs.Paper.Entries.{Entries, Shown, ◌⊑◌}
use Rattle.paper_rules.specs.Paper.Closed.{Least}
use Rattle.paper_rules.specs.Order.OrderLaws.{live_down, arc_up}

-- two live rows that show each other are equal
live_rows : (r s : Row) → r.mark ≤ 2 → s.mark ≤ 2 → r.mark ≢ 2 → s.mark ≢ 2 → Shown r s → Shown s r → r ≡ s
live_rows r s br bs lr ls up down =
    λ i. record { mark = mark i; length = down.length lr i; earliest = earliest i; latest = latest i }
  where
    mark : r.mark ≡ s.mark
    mark = go (ℕ_discrete r.mark 1) (ℕ_discrete s.mark 1)
      where
        go : Dec (r.mark ≡ 1) → Dec (s.mark ≡ 1) → r.mark ≡ s.mark
        go (yes e) d = omega (arith, up.valid e)
        go (no n) (yes e) = omega (arith, down.valid e)
        go (no n) (no m) = omega arith

    earliest : r.earliest ≡ s.earliest
    earliest = omega (whole, up.earliest ls, down.earliest lr)

    latest : r.latest ≡ s.latest
    latest = omega (whole, up.latest ls, down.latest lr)

-- an arc joins live jobs, and they are live on the other board too
arc_across : (b c : Board) → Within b → view b ⊑ view c → view c ⊑ view b → (i k : ℕ) → Arc (view b) i k → Arc (view c) i k
arc_across b c wb up down i k a =
    let (li, lk, ne) = wb.limits.arcs i k a in
    let live : (j : ℕ) → Live (view b) j → Live (view c) j = λ j l. live_down (view c) (view b) down j (omega (arith, up.jobs, l.0)) l in
    arc_up (view b) (view c) up i k a (live i li) (live k lk)

pub alike_boards : (b c : Board) → Within b → Within c → view b ⊑ view c → view c ⊑ view b → Alike b c
alike_boards b c wb wc up down =
    record {
      jobs = jobs;
      rows = λ k. row k (dec_lt k b.jobs) (ℕ_discrete (row_of b k).mark 2);
      arcs = λ i k. same_tests (arc_of b i k) (arc_of c i k) (arc_across b c wb up down i k) (arc_across c b wc down up i k);
    }
  where
    jobs : b.jobs ≡ c.jobs
    jobs = omega (arith, up.jobs, down.jobs)

    row : (k : ℕ) → Dec (k < b.jobs) → Dec ((row_of b k).mark ≡ 2) → row_of b k ≡ row_of c k
    row k (no n) d = (wb.limits.rows k).blank (omega arith) ∙ sym ((wc.limits.rows k).blank (omega (arith, jobs)))
    row k (yes l) (yes e) = (wb.limits.rows k).invalid l e ∙ sym ((wc.limits.rows k).invalid (omega (arith, jobs)) ((up.rows k l).invalid e))
    row k (yes l) (no n) =
        let h = up.rows k l in
        let g = down.rows k (omega (arith, jobs)) in
        live_rows (row_of b k) (row_of c k) (wb.limits.rows k).mark (wc.limits.rows k).mark n (λ e. n (g.invalid e)) h g

pub equal_boards : (b c : Board) → Within b → Within c → EqualBoards b c → b ≡ c
equal_boards b c wb wc e =
    λ i. of_parts (e.alike.jobs i) (lengths i) (earliest i) (latest i) (marks i) (after i) (before i) (e.books i)
  where
    rows : (k : ℕ) → row_of b k ≡ row_of c k
    rows = e.alike.rows

    lengths : b.lengths ≡ c.lengths
    lengths = ext_get_or (pos 0) _ _ (cc) λ k l i. (rows k i).length

    earliest : b.earliest ≡ c.earliest
    earliest = ext_get_or (pos 0) _ _ (cc) λ k l i. (rows k i).earliest

    latest : b.latest ≡ c.latest
    latest = ext_get_or (pos 0) _ _ (cc) λ k l i. (rows k i).latest

    marks : b.marks ≡ c.marks
    marks = ext_get_or 0 _ _ (cc) λ k l i. (rows k i).mark

    after : b.after ≡ c.after
    after = ext_get_or 0 _ _ (cc) λ k l. bit_ext _ _ (e.alike.arcs k)

    before : b.before ≡ c.before
    before =
        ext_get_or 0 _ _ (cc) λ k l. bit_ext _ _ λ j. wb.twice j k ∙ e.alike.arcs j k ∙ sym (wc.twice j k)

-- the least closed board over entries is unique, its tally aside
pub least_unique : (es : Entries) (b c : Board) → Least es b → Least es c → Same b c
least_unique es b c lb lc =
    record { alike = alike_boards b c lb.closed.within lc.closed.within (lb.least c lc.closed) (lc.least b lb.closed) }
