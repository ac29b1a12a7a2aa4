-- A window's ends as the code compares and sets them, and a row's bounds as the rules read and raise them.
use Rattle.std.specs.Prelude.{◌≡◌, refl, ℤ, neg_ℤ}
use Rattle.std.proofs.Math.IntN.{neg_ℤ-neg_ℤ}
use Rattle.std.specs.Int.Signed.{lt_z}
use Rattle.ground_arithmetic.specs.Bools.{same_tests}
use Rattle.ground_arithmetic.specs.Linear.{whole, minus}
use Rattle.ground_arithmetic.specs.Time.{Moderate}
use Rattle.engine_windows.specs.declared.Window.{Window}
use Rattle.paper_board.specs.Paper.View.{Row, Side, early, late, bound}
use Rattle.paper_board.specs.Paper.Values.{turned}
use Rattle.paper_rules.specs.Update.Updates.{raised}
use Rattle.engine_windows.specs.Windows.{edge, bounded, window_of, moved}

-- the late side turns the order
pub turned_test : (a b : ℤ) → lt_z (neg_ℤ a) (neg_ℤ b) ≡ lt_z b a
turned_test a b =
    same_tests
    (lt_z (neg_ℤ a) (neg_ℤ b))
    (lt_z b a)
    (λ h. omega (whole, minus a, minus b))
    (λ h. omega (whole, minus a, minus b))

pub edge_bound : (s : Side) (r : Row) → edge s (window_of r) ≡ bound s r
edge_bound early r = refl
edge_bound late r = refl

pub moved_raised : (s : Side) (t : ℤ) (r : Row) → moved (bounded s t (window_of r)) r ≡ raised s (turned s t) r
moved_raised early t r = refl
moved_raised late t r = rw neg_ℤ-neg_ℤ

pub bounded_moderate : (s : Side) (t : ℤ) (w : Window) → Moderate t → Moderate w.earliest → Moderate (bounded s t w).earliest
bounded_moderate early t w ht hw = ht
bounded_moderate late t w ht hw = hw
