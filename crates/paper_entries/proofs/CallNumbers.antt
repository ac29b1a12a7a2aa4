-- The numbers of a call that meets none of the refusals 1 to 7: what the code needs to cast them and to store them.
use Rattle.std.specs.Prelude.{◌≡◌, ◌≢◌, Bool, true, false, not, List, [], ◌∷◌, ℕ, ◌<◌, ℤ, pos, ◌≤ℤ◌}
use Rattle.std.proofs.Math.Option.{none}
use Rattle.std.proofs.Common.{arith, leb-false}
use Rattle.std.specs.Int.Signed.{le_z, lt_z}
use Rattle.std.proofs.lemmas.Bool.{not-false}
use Rattle.ground_arithmetic.specs.Bools.{refuted, and_parts}
use Rattle.ground_arithmetic.specs.Linear.{whole, none_below}
use Rattle.paper_board.specs.Paper.Limits.{IsTime, IsLength, job_limit}
use Rattle.paper_board.specs.BoardTests.Decides.{Decides, ◌and◌}
use Rattle.paper_board.proofs.LimitsDecided.{decides_between, decides_time, decides_length}
use Rattle.paper_entries.specs.Paper.Entry.{mark, cut, addition, other, number}
use Rattle.paper_entries.specs.Paper.Checks.{Check, is_job, job_check, pair_checks, time_check, window_check, checks, first_refusal}
use Rattle.paper_entries.specs.CheckLines.{passed}

-- the number of a job on a board of n jobs
pub record IsJob (n : ℕ) (z : ℤ) : Type 0 where
  pub low : pos 0 ≤ℤ z
  pub high : number z < n

pub record PairNumbers (n : ℕ) (a b : ℤ) : Type 0 where
  pub first : IsJob n a
  pub second : IsJob n b
  pub different : number a ≢ number b

pub record MarkNumbers (n : ℕ) (j m : ℤ) : Type 0 where
  pub job : IsJob n j
  pub low : pos 1 ≤ℤ m
  pub high : m ≤ℤ pos 2

pub record Window (e d : ℤ) : Type 0 where
  pub earliest : IsTime e
  pub latest : IsTime d
  pub order : e ≤ℤ d

pub record CutNumbers (n : ℕ) (j e d : ℤ) : Type 0 where
  pub job : IsJob n j
  pub window : Window e d

pub record AdditionNumbers (n : ℕ) (l e d m : ℤ) : Type 0 where
  pub room : n < job_limit
  pub length : IsLength l
  pub window : Window e d
  pub low : pos 0 ≤ℤ m
  pub high : m ≤ℤ pos 1

-- a test that its check did not find broken
unbroken : {t : Bool} {P : Type 0} → Decides t P → not t ≡ false → P
unbroken {t} d e = d.yes (not-false t e)

is_job_known : (n : ℕ) (z : ℤ) → is_job n z ≡ true → IsJob n z
is_job_known n z t =
    let (a, b) = and_parts (le_z (pos 0) z) (lt_z z (pos n)) t in
    let low : pos 0 ≤ℤ z = omega whole in
    record { low = low; high = omega (whole, none_below z low) }

-- the lines 5 and 6, and those after them
window : (e d : ℤ) (cs : List Check) → first_refusal (time_check e d ∷ window_check e d ∷ cs) ≡ none → Window e d × (first_refusal cs ≡ none)
window e d cs g =
    let (time, g1) = passed _ _ g in
    let (order, g2) = passed _ _ g1 in
    let (earliest, latest) = unbroken (decides_time e and decides_time d) time in
    (record { earliest = earliest; latest = latest; order = omega whole }, g2)

-- line 2, and those after it
job : (n : ℕ) (j : ℤ) (cs : List Check) → first_refusal (job_check n j ∷ cs) ≡ none → IsJob n j × (first_refusal cs ≡ none)
job n j cs g = let (known, g1) = passed _ _ g in (is_job_known n j (not-false _ known), g1)

pub job_numbers : (n : ℕ) (j : ℤ) → first_refusal (job_check n j ∷ []) ≡ none → IsJob n j
job_numbers n j g = (job n j [] g).0

pub pair_numbers : (n : ℕ) (a b : ℤ) → first_refusal (pair_checks n a b) ≡ none → PairNumbers n a b
pair_numbers n a b g =
    let (jobs, g1) = passed _ _ g in
    let (same, g2) = passed _ _ g1 in
    let (ta, tb) = and_parts (is_job n a) (is_job n b) (not-false _ jobs) in
    let first = is_job_known n a ta in
    let second = is_job_known n b tb in
    record { first = first; second = second; different = λ e. refuted same (omega (whole, none_below a first.low, none_below b second.low)) }

pub mark_numbers : (n : ℕ) (j m : ℤ) → first_refusal (checks n (other (mark j m))) ≡ none → MarkNumbers n j m
mark_numbers n j m g =
    let (known, g1) = job n j _ g in
    let (taken, g2) = passed _ _ g1 in
    let (low, high) = unbroken (decides_between (pos 1) (pos 2) m) taken in
    record { job = known; low = low; high = high }

pub cut_numbers : (n : ℕ) (j e d : ℤ) → first_refusal (checks n (other (cut j e d))) ≡ none → CutNumbers n j e d
cut_numbers n j e d g =
    let (known, g1) = job n j _ g in
    record { job = known; window = (window e d [] g1).0 }

pub addition_numbers : (n : ℕ) (l e d m : ℤ) → first_refusal (checks n (addition l e d m)) ≡ none → AdditionNumbers n l e d m
addition_numbers n l e d m g =
    let (full, g1) = passed _ _ g in
    let (length, g2) = passed _ _ g1 in
    let (times, g3) = window e d _ g2 in
    let (taken, g4) = passed _ _ g3 in
    let (low, high) = unbroken (decides_between (pos 0) (pos 1) m) taken in
    record {
      room = omega (arith, leb-false job_limit n full);
      length = unbroken (decides_length l) length;
      window = times;
      low = low;
      high = high;
    }
