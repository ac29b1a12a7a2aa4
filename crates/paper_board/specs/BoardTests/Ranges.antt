-- What every place of a board within its limits holds, job or no job: times, a length or 0, and words of 64 bits. So no proof
-- about the code has to ask first whether a place holds a job.
use Rattle.std.specs.Prelude.{◌≡◌, ℕ, ◌<◌, ◌≤◌, ◌^◌, ℤ, pos, get_or, ◌≤ℤ◌}
use Rattle.std.proofs.Common.{ap, arith}
use Rattle.std.proofs.Math.Decide.{ℕ_discrete, dec_lt}
use Rattle.std.specs.Int.Signed.{lt_z}
use Rattle.ground_sets.specs.BitLaws.{bits_bound}
use Rattle.ground_arithmetic.specs.Bools.{is_false, by_test}
use Rattle.ground_arithmetic.specs.Linear.{whole}
use Rattle.ground_arithmetic.specs.Time.{Moderate, greater}
use Rattle.paper_board.specs.declared.Board.{Board}
use Rattle.paper_board.specs.Paper.View.{Row, row_of}
use Rattle.paper_board.specs.Paper.Limits.{Within, IsTime, RowLimits, zero_row, job_limit, longest}

-- the numbers of a row at any place
pub record Ranges (r : Row) : Type 0 where
  pub mark : r.mark ≤ 2
  pub earliest : IsTime r.earliest
  pub latest : IsTime r.latest
  pub low : pos 0 ≤ℤ r.length
  pub high : r.length ≤ℤ longest

zero_ranges : (m : ℕ) → m ≤ 2 → (r : Row) → r ≡ zero_row m → Ranges r
zero_ranges m l r e =
    let earliest = ap (λ (x : Row). x.earliest) e in
    let latest = ap (λ (x : Row). x.latest) e in
    let length = ap (λ (x : Row). x.length) e in
    let mark = ap (λ (x : Row). x.mark) e in
    record {
      mark = omega arith;
      earliest = record { low = omega whole; high = omega whole };
      latest = record { low = omega whole; high = omega whole };
      low = omega whole;
      high = omega whole;
    }

row_ranges : (n k : ℕ) (r : Row) → RowLimits n k r → Ranges r
row_ranges n k r h = place (dec_lt k n) (ℕ_discrete r.mark 2)
  where
    place : Dec (k < n) → Dec (r.mark ≡ 2) → Ranges r
    place (no l) m = zero_ranges 0 (omega arith) r (h.blank (omega arith))
    place (yes l) (yes m) = zero_ranges 2 (omega arith) r (h.invalid l m)
    place (yes l) (no m) =
        let fits = h.live l m in
        record {
          mark = h.mark;
          earliest = fits.earliest;
          latest = fits.latest;
          low = omega (whole, fits.length.low);
          high = fits.length.high;
        }

module _ (b : Board) (h : Within b) where
  pub ranges : (k : ℕ) → Ranges (row_of b k)
  ranges k = row_ranges b.jobs k (row_of b k) (h.limits.rows k)

  -- an arc joins jobs of the board, so that no word has a bit past them
  pub after_fits : (k : ℕ) → get_or b.after k 0 < 2 ^ job_limit
  after_fits k = bits_bound job_limit (get_or b.after k 0) λ m l. is_false _ λ e.
      omega (arith, (h.limits.arcs k m e).1.0, h.limits.jobs)

  pub before_fits : (k : ℕ) → get_or b.before k 0 < 2 ^ job_limit
  before_fits k = bits_bound job_limit (get_or b.before k 0) λ m l. is_false _ λ e.
      let arc = rw (h.twice m k) at e in
      omega (arith, (h.limits.arcs m k arc).0.0, h.limits.jobs)

pub greater_time : {a c : ℤ} → IsTime a → IsTime c → IsTime (greater a c)
greater_time {a} {c} s t = by_test IsTime (lt_z a c) c a (λ e. t) (λ e. s)

-- a time or a length is far from the ends of an i32
pub time_moderate : {z : _} → IsTime z → Moderate z
time_moderate t = (omega (whole, t.low), omega (whole, t.high))

pub length_moderate : {r : Row} → Ranges r → Moderate r.length
length_moderate h = (omega (whole, h.low), omega (whole, h.high))
