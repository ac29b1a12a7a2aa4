-- Rows that an update changes: a row with one bound raised, and a row marked valid. What they show, what shows them, and
-- that they fit. Where a raised row has no room for its job, neither has any live row above it.
use Rattle.std.specs.Prelude.{◌≡◌, refl, ◌≢◌, true, false, ℕ, ℤ, neg_ℤ, ◌+ℤ◌, ◌≤ℤ◌, ◌<ℤ◌}
use Rattle.std.proofs.Common.{arith}
use Rattle.ground_arithmetic.specs.Linear.{whole, plus, minus}
use Rattle.paper_board.specs.Paper.View.{Row, Side, early, late, bound}
use Rattle.paper_board.specs.Paper.Limits.{Fits}
use Rattle.paper_rules.specs.Paper.Entries.{Shown}
use Rattle.paper_board.specs.BoardTests.Live.{roomy}
use Rattle.paper_rules.specs.Update.Updates.{raised, marked}

pub raised_mark : (s : Side) (z : ℤ) (r : Row) → (raised s z r).mark ≡ r.mark
raised_mark early z r = refl
raised_mark late z r = refl

pub raised_bound : (s : Side) (z : ℤ) (r : Row) → z ≤ℤ bound s (raised s z r)
raised_bound early z r = omega whole
raised_bound late z r = omega (whole, minus z, minus (neg_ℤ z))

pub raised_above : (s : Side) (z : ℤ) (r : Row) → bound s r ≤ℤ z → Shown r (raised s z r)
raised_above early z r h =
    record { valid = λ e. e; invalid = λ e. e; length = λ _. refl; earliest = λ _. h; latest = λ _. omega whole }
raised_above late z r h =
    record {
      valid = λ e. e;
      invalid = λ e. e;
      length = λ _. refl;
      earliest = λ _. omega whole;
      latest = λ _. omega (whole, minus z, minus r.latest);
    }

pub raised_least : (s : Side) (z : ℤ) (r t : Row) → Shown r t → (t.mark ≢ 2 → z ≤ℤ bound s t) → Shown (raised s z r) t
raised_least early z r t up h =
    record { valid = up.valid; invalid = up.invalid; length = up.length; earliest = h; latest = up.latest }
raised_least late z r t up h =
    record {
      valid = up.valid;
      invalid = up.invalid;
      length = up.length;
      earliest = up.earliest;
      latest = λ l. omega (whole, h l, minus z, minus t.latest);
    }

-- the lengths are positive, so a bound that leaves room lies between the old bound and the other side of the window
pub raised_fits : (s : Side) (z : ℤ) (r : Row) → Fits r → bound s r ≤ℤ z → roomy (raised s z r) ≡ true → Fits (raised s z r)
raised_fits early z r fits h room =
    record {
      length = fits.length;
      earliest = omega (whole, fits.length.low, fits.earliest.low, fits.latest.high, plus z r.length);
      latest = fits.latest;
    }
raised_fits late z r fits h room =
    record {
      length = fits.length;
      earliest = fits.earliest;
      latest = omega (whole, fits.length.low, fits.earliest.low, fits.latest.high, plus r.earliest r.length, minus z, minus r.latest);
    }

pub raised_short : (s : Side) (z : ℤ) (r t : Row) → roomy (raised s z r) ≡ false → Shown r t → t.mark ≢ 2 → z ≤ℤ bound s t
    → t.latest <ℤ (t.earliest +ℤ t.length)
raised_short early z r t cramped up l h =
    omega (whole, up.latest l, up.length l, plus z r.length, plus t.earliest t.length)
raised_short late z r t cramped up l h =
    omega
    (whole, up.earliest l, up.length l, plus r.earliest r.length, plus t.earliest t.length, minus z, minus t.latest)

pub valid_above : (r : Row) → r.mark ≢ 2 → Shown r (marked 1 r)
valid_above r m =
    record {
      valid = λ _. refl;
      invalid = λ e. absurd (m e);
      length = λ _. refl;
      earliest = λ _. omega whole;
      latest = λ _. omega whole;
    }

pub valid_least : (r t : Row) → Shown r t → t.mark ≡ 1 → Shown (marked 1 r) t
valid_least r t up e =
    record { valid = λ _. e; invalid = λ n. absurd (omega arith); length = up.length; earliest = up.earliest; latest = up.latest }

pub marked_fits : (m : ℕ) (r : Row) → Fits r → Fits (marked m r)
marked_fits m r fits = record { length = fits.length; earliest = fits.earliest; latest = fits.latest }
