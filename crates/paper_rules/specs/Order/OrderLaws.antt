-- Laws of the order of boards: what a board shows, every board above it shows too.
use Rattle.std.specs.Prelude.{◌≡◌, refl, ◌≢◌, ℕ, ◌<◌, ◌≤ℤ◌}
use Rattle.std.proofs.Common.{◌∙◌, arith}
use Rattle.ground_arithmetic.specs.Linear.{whole, minus}
use Rattle.paper_board.specs.Paper.View.{Row, View, Live, Valid, Invalid, Arc, Side, early, late, bound, Beyond}
use Rattle.paper_board.specs.Paper.Facts.{Fact, is_arc, is_bound, is_valid, is_invalid, Holds}
use Rattle.paper_board.specs.Paper.Limits.{Limited}
use Rattle.paper_rules.specs.Paper.Entries.{Entries, Shown, AtLeast, Drawn, drawn, shown, ◌⊑◌}

pub shown_refl : (r : Row) → Shown r r
shown_refl r =
    record { valid = λ e. e; invalid = λ e. e; length = λ l. refl; earliest = λ l. omega whole; latest = λ l. omega whole }

-- an invalid job shows every row but a valid one
pub shown_invalid : (r s : Row) → r.mark ≢ 1 → s.mark ≡ 2 → Shown r s
shown_invalid r s m e =
    record {
      valid = λ v. absurd (m v);
      invalid = λ _. e;
      length = λ l. absurd (l e);
      earliest = λ l. absurd (l e);
      latest = λ l. absurd (l e);
    }

pub shown_trans : {r s t : Row} → Shown r s → Shown s t → Shown r t
shown_trans {r} {s} {t} h k =
    let live : t.mark ≢ 2 → s.mark ≢ 2 = λ l e. l (k.invalid e) in
    record {
      valid = λ e. k.valid (h.valid e);
      invalid = λ e. k.invalid (h.invalid e);
      length = λ l. k.length l ∙ h.length (live l);
      earliest = λ l. omega (whole, k.earliest l, h.earliest (live l));
      latest = λ l. omega (whole, k.latest l, h.latest (live l));
    }

module _ (v w : View) (up : v ⊑ w) where
  -- a job of v that is live above is live in v
  pub live_down : (j : ℕ) → j < v.jobs → Live w j → Live v j
  live_down j l h = (l, λ e. h.1 ((up.rows j l).invalid e))

  pub below_up : (j : ℕ) → j < v.jobs → j < w.jobs
  below_up j l = omega (arith, up.jobs)

  pub valid_up : (j : ℕ) → Valid v j → Valid w j
  valid_up j h = (below_up j h.0, (up.rows j h.0).valid h.1)

  invalid_up : (j : ℕ) → Invalid v j → Invalid w j
  invalid_up j h = (below_up j h.0, (up.rows j h.0).invalid h.1)

  pub arc_up : (i k : ℕ) → Arc v i k → Live w i → Live w k → Arc w i k
  arc_up i k a = (up.facts (is_arc i k) (drawn i k a)).2

  pub bound_up : (s : Side) (j : ℕ) → j < v.jobs → Live w j → bound s (v.row j) ≤ℤ bound s (w.row j)
  bound_up early j l h = (up.rows j l).earliest h.1
  bound_up late j l h = omega (whole, (up.rows j l).latest h.1, minus (v.row j).latest, minus (w.row j).latest)

  pub length_up : (j : ℕ) → j < v.jobs → Live w j → (w.row j).length ≡ (v.row j).length
  length_up j l h = (up.rows j l).length h.1

  pub beyond_up : (s : Side) (k j : ℕ) → Beyond v s k j → Live w k → Live w j → Beyond w s k j
  beyond_up early k j a lk lj = arc_up k j a lk lj
  beyond_up late k j a lk lj = arc_up j k a lj lk

  pub holds_up : (f : Fact) → Holds v f → Holds w f
  holds_up (is_arc i k) (li, lk, h) =
      (below_up i li, below_up k lk, λ a b. arc_up i k (h (live_down i li a) (live_down k lk b)) a b)
  holds_up (is_bound s j z) (l, h) = (below_up j l, λ a. omega (whole, bound_up s j l a, h (live_down j l a)))
  holds_up (is_valid j) h = valid_up j h
  holds_up (is_invalid j) h = invalid_up j h

  -- entries that v shows are shown above it
  pub at_least_up : (es : Entries) → AtLeast es v → AtLeast es w
  at_least_up es h =
      record {
        jobs = omega (arith, h.jobs, up.jobs);
        rows = λ k l. shown_trans (h.rows k l) (up.rows k (omega (arith, h.jobs)));
        facts = λ f e. holds_up f (h.facts f e);
      }

-- an arc joins jobs of the view, so that it shows its own arcs
pub ⊑_refl : (v : View) → Limited v → v ⊑ v
⊑_refl v limits = record { jobs = omega arith; rows = λ k l. shown_refl (v.row k); facts = facts }
  where
    facts : (f : Fact) → Drawn v f → Holds v f
    facts _ (drawn i k a) = let (li, lk, _) = limits.arcs i k a in (li.0, lk.0, λ _ _. a)

pub ⊑_trans : (u v w : View) → u ⊑ v → v ⊑ w → u ⊑ w
⊑_trans u v w h k = at_least_up v w k (shown u) h
