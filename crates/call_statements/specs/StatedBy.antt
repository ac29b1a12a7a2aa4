-- What an entry states that its checks let pass: the board that shows it is the paper's (`stated_raw`), and the code can put it there
-- (`stated_storable`).
use Rattle.std.specs.Prelude.{◌≡◌, refl, Bool, true, false, cond, [], ◌∷◌, ℕ, ◌<◌, eqb, pos, ◌≤ℤ◌}
use Rattle.std.proofs.Common.{ap}
use Rattle.std.proofs.Math.Option.{none}
use Rattle.ground_arithmetic.specs.Linear.{whole}
use Rattle.paper_board.specs.declared.Board.{Board}
use Rattle.paper_board.specs.declared.facts.Fact.TheVariants as Facts
use Rattle.paper_board.specs.declared.facts.Side.TheVariants as Sides
use Rattle.paper_board.specs.Paper.Facts.{is_valid, is_invalid}
use Rattle.paper_board.specs.Paper.Values.{fact_of}
use Rattle.paper_board.specs.BoardTests.Ranges.{time_moderate}
use Rattle.paper_entries.specs.Paper.Entry.{Entry, addition, other, arc, mark, cut, number}
use Rattle.paper_entries.specs.Paper.Checks.{checks, first_refusal}
use Rattle.paper_entries.specs.Paper.Enter.{raw, update_all}
use Rattle.paper_entries.proofs.Allowed.{checks_allow}
use Rattle.paper_entries.proofs.CallNumbers.{addition_numbers, pair_numbers, mark_numbers, cut_numbers}
use Rattle.call_statements.specs.declared.Stated.{Stated}
use Rattle.call_statements.specs.declared.Stated.TheVariants.{Row, One, Two}
use Rattle.call_statements.specs.Stated.{raw_of, Storable}

-- the entry passes the checks of the table on a board of so many jobs
pub record ChecksPassed (e : Entry) : Type 0 where
  pub jobs : ℕ
  pub passed : first_refusal (checks jobs e) ≡ none

abbrev pub stated_by : Entry → Stated
stated_by (addition l e d m) = Row l e d (number m)
stated_by (other (arc a b)) = One (Facts.Arc (number a) (number b))
stated_by (other (mark j m)) = One (cond (eqb (number m) 1) (Facts.Valid (number j)) (Facts.Invalid (number j)))
stated_by (other (cut j e d)) = Two (Facts.Bound Sides.Early (number j) e) (Facts.Bound Sides.Late (number j) d)

-- the numbers of such an entry that become indices and marks
abbrev NumbersFit : Entry → Type 0
NumbersFit (addition l e d m) = (pos 0 ≤ℤ m) × (m ≤ℤ pos 2)
NumbersFit (other (arc a b)) = (pos 0 ≤ℤ a) × (pos 0 ≤ℤ b)
NumbersFit (other (mark j m)) = (pos 0 ≤ℤ j) × (pos 0 ≤ℤ m) × (m ≤ℤ pos 2)
NumbersFit (other (cut j e d)) = pos 0 ≤ℤ j

pub numbers_fit : (e : Entry) → ChecksPassed e → NumbersFit e
numbers_fit (addition l e d m) p = let h = addition_numbers p.jobs l e d m p.passed in (h.low, omega (whole, h.high))
numbers_fit (other (arc a b)) p = let h = pair_numbers p.jobs a b p.passed in (h.first.low, h.second.low)
numbers_fit (other (mark j m)) p = let h = mark_numbers p.jobs j m p.passed in (h.job.low, omega (whole, h.low), h.high)
numbers_fit (other (cut j e d)) p = (cut_numbers p.jobs j e d p.passed).job.low

mark_fact : (j : ℕ) (t : Bool) → fact_of (cond t (Facts.Valid j) (Facts.Invalid j)) ≡ cond t (is_valid j) (is_invalid j)
mark_fact j true = refl
mark_fact j false = refl

pub stated_raw : (b : Board) (e : Entry) → raw_of b (stated_by e) ≡ raw b e
unfolding raw
stated_raw b (addition l e d m) = refl
stated_raw b (other (arc i k)) = refl
stated_raw b (other (mark j m)) = ap (λ f. update_all b (f ∷ [])) (mark_fact (number j) (eqb (number m) 1))
stated_raw b (other (cut j e d)) = refl

mark_storable : (n j : ℕ) (t : Bool) → j < n → Storable n (One (cond t (Facts.Valid j) (Facts.Invalid j)))
mark_storable n j true l = (l, tt)
mark_storable n j false l = (l, tt)

pub stated_storable : (n : ℕ) (e : Entry) → first_refusal (checks n e) ≡ none → Storable n (stated_by e)
stated_storable n (addition l e d m) g = checks_allow n (addition l e d m) g
stated_storable n (other (arc a b)) g =
    let h = pair_numbers n a b g in
    ((h.first.high, h.second.high, h.different), tt)
stated_storable n (other (mark j m)) g = mark_storable n (number j) (eqb (number m) 1) (mark_numbers n j m g).job.high
stated_storable n (other (cut j e d)) g =
    let h = cut_numbers n j e d g in
    (h.job.high, time_moderate h.window.earliest, h.job.high, time_moderate h.window.latest)
