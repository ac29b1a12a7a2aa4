-- The measure of a board: its live jobs, the minutes by which their bounds can still rise, and the arcs that they lack.
-- It falls with each inference made, so that there are never more inferences than `steps`.
use Rattle.std.specs.Prelude.{◌≡◌, refl, Bool, false, cond, not, ◌&&◌, ℕ, suc, ◌+◌, ◌≤◌, ◌<◌, ℤ, neg_ℤ, ◌-ℤ◌, ◌≤ℤ◌, ◌<ℤ◌}
use Rattle.std.proofs.Math.Bool.{true}
use native.Mathlib.Omega.{arith}
use Rattle.std.specs.Int.Signed.{le_z}
use Rattle.ground_arithmetic.specs.Bools.{is_false, refuted}
use Rattle.ground_arithmetic.specs.Linear.{whole, above, below, plus, minus, none_below}
use Rattle.ground_arithmetic.specs.Sum.{count, count_mono, count_falls, count_bound}
use Rattle.paper_board.specs.declared.Board.{Board}
use Rattle.paper_board.specs.Paper.View.{Row, View, Live, Arc, Invalid, Side, early, late, bound, view, row_of}
use Rattle.paper_board.specs.Paper.Facts.{Fact, is_arc, is_bound, Holds}
use Rattle.paper_rules.specs.Inference.Infers.{Infers, r1, r2, r3, r45, r6}
use Rattle.paper_board.specs.Paper.Limits.{Fits, Within, job_limit, last_minute}
use Rattle.paper_rules.specs.Order.OrderLaws.{live_down, arc_up, bound_up}
use Rattle.paper_rules.specs.Update.Extension.{Above}
use Rattle.paper_board.specs.Paper.Tests.{live}
use Rattle.paper_board.specs.BoardTests.Live.{live_yes, live_show}
use Rattle.paper_board.specs.BoardTests.Decides.{Decides, ◌and◌, negated, holds, live_is}
use Rattle.paper_board.specs.BoardTests.BoundTime.{bound_time}
use Rattle.paper_closure.specs.Closure.{steps}

-- the minutes by which a bound can still rise
abbrev slack : Side → Row → ℕ
slack s r = above (last_minute -ℤ bound s r)

abbrev room : Row → ℕ
room r = slack early r + slack late r

abbrev weight : View → ℕ → ℕ
weight v j = cond (live v j) (suc (room (v.row j))) 0

-- are the two live, with no arc from the first to the second?
abbrev lacking : View → ℕ → ℕ → Bool
lacking v i k = live v i && live v k && not (v.arc i k)

abbrev missing : View → ℕ → ℕ → ℕ
missing v i k = cond (lacking v i k) 1 0

unfoldable pub measure : Board → ℕ
measure b = count job_limit (weight (view b)) + count job_limit λ i. count job_limit (missing (view b) i)

cond_mono : (s t : Bool) {x y : ℕ} → (s ≡ true → (t ≡ true) × (x ≤ y)) → cond s x 0 ≤ cond t y 0
cond_mono false t h = omega arith
cond_mono true true h = (h refl).1
cond_mono true false h = absurd (refuted refl (h refl).0)

cond_falls : (s t : Bool) {x y : ℕ} → t ≡ true → 0 < y → (s ≡ true → x < y) → cond s x 0 < cond t y 0
cond_falls true true e p h = h refl
cond_falls false true e p h = p
cond_falls s false e p h = absurd (refuted refl e)

lacking_is : (v : View) (i k : ℕ) → Decides (lacking v i k) ((Live v i × Live v k) × (Arc v i k → ⊥))
lacking_is v i k = live_is v i and live_is v k and negated (holds (v.arc i k))

-- slack s r is what is left of 500000 above the bound
slack_is : (s : Side) (r : Row) → bound s r ≤ℤ last_minute → slack s r + above (bound s r) ≡ 500000 + below (bound s r)
slack_is s r h =
    let z = bound s r in
    let sum = plus last_minute (neg_ℤ z) in
    omega (whole, none_below (last_minute -ℤ z) (omega (whole, sum, minus z)), sum, minus z)

module _ (b c : Board) (more : Above b.jobs b c) where
  live_before : (j : ℕ) → Live (view c) j → Live (view b) j
  live_before j l = live_down (view b) (view c) more.above j (omega (arith, more.jobs, l.0)) l

  module _ (s : Side) (j : ℕ) (l : Live (view c) j) where
    rises : bound s (row_of b j) ≤ℤ bound s (row_of c j)
    rises = bound_up (view b) (view c) more.above s j (live_before j l).0 l

    -- by what the bound rises, its slack falls
    slack_falls : slack s (row_of b j) + above (bound s (row_of b j)) + below (bound s (row_of c j))
        ≡ slack s (row_of c j) + above (bound s (row_of c j)) + below (bound s (row_of b j))
    slack_falls =
        let high = (bound_time s (row_of c j) ((more.within.limits.rows j).live l.0 l.1)).high in
        omega (arith, slack_is s (row_of c j) high, slack_is s (row_of b j) (omega (whole, rises)))

    slack_mono : slack s (row_of c j) ≤ slack s (row_of b j)
    slack_mono = omega (whole, slack_falls, rises)

  room_falls : (s : Side) (j : ℕ) → Live (view c) j → bound s (row_of b j) <ℤ bound s (row_of c j) → room (row_of c j) < room (row_of b j)
  room_falls early j l h = omega (whole, slack_falls early j l, slack_mono late j l)
  room_falls late j l h = omega (whole, slack_falls late j l, slack_mono early j l)

  weight_mono : (j : ℕ) → weight (view c) j ≤ weight (view b) j
  weight_mono j = cond_mono (live (view c) j) (live (view b) j) λ e.
      let l = live_yes (view c) j e in
      (live_show (view b) j (live_before j l), omega (arith, slack_mono early j l, slack_mono late j l))

  missing_mono : (i k : ℕ) → missing (view c) i k ≤ missing (view b) i k
  missing_mono i k = cond_mono (lacking (view c) i k) (lacking (view b) i k) λ e.
      let ((li, lk), none) = (lacking_is (view c) i k).yes e in (
        (lacking_is (view b) i k).show ((live_before i li, live_before k lk), λ arc. none (arc_up (view b) (view c) more.above i k arc li lk)),
        omega arith,
      )

  row_mono : (i : ℕ) → count job_limit (missing (view c) i) ≤ count job_limit (missing (view b) i)
  row_mono i = count_mono job_limit _ _ λ k _. missing_mono i k

  pub measure_mono : measure c ≤ measure b
  unfolding measure
  measure_mono = omega (arith, count_mono job_limit _ _ (λ k _. weight_mono k), count_mono job_limit _ _ (λ i _. row_mono i))

  -- a live job loses room or is live no more
  job_falls : (j : ℕ) → Live (view b) j → (Live (view c) j → room (row_of c j) < room (row_of b j)) → measure c < measure b
  unfolding measure
  job_falls j l h =
      omega (
        arith,
        count_falls job_limit _ _ j (omega (arith, more.within.limits.jobs, more.jobs, l.0)) lighter (λ k _. weight_mono k),
        count_mono job_limit _ _ (λ i _. row_mono i),
      )
    where
      lighter : weight (view c) j < weight (view b) j
      lighter = cond_falls (live (view c) j) (live (view b) j) (live_show (view b) j l) (omega arith) λ e. omega (arith, h (live_yes (view c) j e))

  bound_falls : (s : Side) (j : ℕ) (z : ℤ) → Live (view b) j → (Holds (view b) (is_bound s j z) → ⊥) → Holds (view c) (is_bound s j z) → measure c < measure b
  bound_falls s j z lj h (mj, low) =
      let lower = is_false (le_z z (bound s (row_of b j))) λ e. h (lj.0, λ _. omega whole) in
      job_falls j lj λ l. room_falls s j l (omega (whole, low l))

  invalid_falls : (j : ℕ) → Live (view b) j → Invalid (view c) j → measure c < measure b
  invalid_falls j lj h = job_falls j lj λ l. absurd (l.1 h.1)

  arc_falls : (i k : ℕ) → Live (view b) i → Live (view b) k → (Holds (view b) (is_arc i k) → ⊥) → Holds (view c) (is_arc i k) → measure c < measure b
  unfolding measure
  arc_falls i k li lk h (mi, mk, arc) =
      let row = count_falls job_limit _ _ k (omega (arith, more.within.limits.jobs)) drawn λ m _. missing_mono i m in
      omega (
        arith,
        count_mono job_limit _ _ (λ j _. weight_mono j),
        count_falls job_limit _ _ i (omega (arith, more.within.limits.jobs)) row (λ m _. row_mono m),
      )
    where
      before : lacking (view b) i k ≡ true
      before = (lacking_is (view b) i k).show ((li, lk), λ arc. h (li.0, lk.0, λ _ _. arc))

      drawn : missing (view c) i k < missing (view b) i k
      drawn = cond_falls (lacking (view c) i k) (lacking (view b) i k) before (omega arith) λ e.
          let ((li, lk), none) = (lacking_is (view c) i k).yes e in
          absurd (none (arc li lk))

  pub measure_falls : (f : Fact) → Infers (view b) f → (Holds (view b) f → ⊥) → Holds (view c) f → measure c < measure b
  measure_falls _ (r1 i j k li vj lk ne ij jk) h m = arc_falls i k li lk h m
  measure_falls _ (r2 i k vi lk ik ki) h m = invalid_falls k lk m
  measure_falls _ (r3 i k li lk ne e) h m = arc_falls k i lk li h m
  measure_falls _ (r45 s j S z lj p) h m = bound_falls s j _ lj h m
  measure_falls _ (r6 j lj e) h m = invalid_falls j lj m

slack_bound : (s : Side) (r : Row) → Fits r → slack s r ≤ 1000000
slack_bound s r f = let t = bound_time s r f in omega (whole, slack_is s r t.high, t.low)

pub measure_bound : (b : Board) → Within b → measure b ≤ steps
unfolding measure
measure_bound b w =
    omega (arith, count_bound job_limit 2000001 (weight (view b)) (λ j _. job j), count_bound job_limit job_limit _ (λ i _. row i))
  where
    job : (j : ℕ) → weight (view b) j ≤ 2000001
    job j = cond_mono (live (view b) j) true λ e.
        let (l, m) = live_yes (view b) j e in
        let f = (w.limits.rows j).live l m in
        (refl, omega (arith, slack_bound early (row_of b j) f, slack_bound late (row_of b j) f))

    row : (i : ℕ) → count job_limit (missing (view b) i) ≤ job_limit
    row i = omega (arith, count_bound job_limit 1 (missing (view b) i) λ k _. cond_mono (lacking (view b) i k) true λ e. (refl, omega arith))
