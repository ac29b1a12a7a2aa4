-- The limits of a board as the code tests them: what every place holds, and that the words after the jobs agree with the words before
-- them. Together these are the limits.
use Rattle.std.specs.Prelude.{◌≡◌, ◌≢◌, Bool, true, List, ℕ, ◌<◌, ◌≤◌, length, get_or}
use Rattle.std.proofs.Common.{sym, ◌∙◌, arith}
use Rattle.std.proofs.Math.Decide.{dec_lt}
use Rattle.ground_sets.specs.Bit.{bit, width}
use Rattle.ground_sets.specs.BitLaws.{bit_zero}
use Rattle.ground_arithmetic.specs.Bools.{refuted, same_tests}
use Rattle.paper_board.specs.declared.Board.{Board}
use Rattle.paper_board.specs.Paper.View.{view, row_of, arc_of, arc_into_of, Live, Arc}
use Rattle.paper_board.specs.Paper.Limits.{job_limit, RowLimits, Shape, Within}
use Rattle.paper_board.specs.BoardTests.WithinLimits.{within_limits}
use Rattle.paper_board.specs.BoardTests.Decides.{Decides, restated, same_decision}
use Rattle.paper_board.proofs.LimitsDecided.{decides_limits, past, past_row}
use Rattle.engine_agreement.specs.Agree.{Agree}
use Rattle.engine_places.specs.Place.{Place, blank_limits}

-- ---- the board

module _ (b : Board) where
  abbrev pub PlacesHeld : Type 0
  PlacesHeld = (k : ℕ) → k < job_limit → Place b k

  within_held : Within b → PlacesHeld
  within_held w k l = (w.limits.rows k, (after, before))
    where
      below : {x : ℕ} → x < b.jobs → x < width
      below h = omega (arith, w.limits.jobs)

      after : (x : ℕ) → arc_of b k x ≡ true → (k < b.jobs) × (get_or b.marks k 0 ≢ 2) × (x < width) × (k ≢ x)
      after x e = let (i, j, n) = w.limits.arcs k x e in (i.0, i.1, below j.0, n)

      before : (x : ℕ) → arc_into_of b k x ≡ true → (k < b.jobs) × (get_or b.marks k 0 ≢ 2) × (x < width)
      before x e = let (i, j, n) = w.limits.arcs x k (sym (w.twice x k) ∙ e) in (j.0, j.1, below i.0)

  module _ (s : Shape b) (jobs : b.jobs ≤ job_limit) where
    -- a word with a member is at one of the 64 places
    place : (words : List ℕ) → length words ≡ job_limit → (i k : ℕ) → bit (get_or words i 0) k ≡ true → i < job_limit
    place words full i k e = go (dec_lt i job_limit)
      where
        go : Dec (i < job_limit) → i < job_limit
        go (yes l) = l
        go (no l) = absurd (refuted (bit_zero k) (rw (past words 0 full i (omega arith)) at e))

    held_within : PlacesHeld → Agree b.after b.before → Within b
    held_within h agree =
        record {
          shape = s;
          limits = record { jobs = jobs; rows = rows; arcs = arcs };
          twice = λ i k. same_tests (arc_into_of b k i) (arc_of b i k) (out i k) (into i k);
        }
      where
        rows : (k : ℕ) → RowLimits b.jobs k (row_of b k)
        rows k = go (dec_lt k job_limit)
          where
            go : Dec (k < job_limit) → RowLimits b.jobs k (row_of b k)
            go (yes l) = (h k l).0
            go (no l) = blank_limits b.jobs k (row_of b k) (omega arith) (past_row b s k (omega arith))

        into : (i k : ℕ) → arc_of b i k ≡ true → arc_into_of b k i ≡ true
        into i k e = let l = place b.after s.after i k e in agree i k l ((h i l).1.0 k e).2 ∙ e

        out : (i k : ℕ) → arc_into_of b k i ≡ true → arc_of b i k ≡ true
        out i k e = let l = place b.before s.before k i e in sym (agree i k ((h k l).1.1 i e).2 l) ∙ e

        arcs : (i k : ℕ) → Arc (view b) i k → Live (view b) i × Live (view b) k × (i ≢ k)
        arcs i k e =
            let (li, vi, w, n) = (h i (place b.after s.after i k e)).1.0 k e in
            let (lk, vk, v) = (h k w).1.1 i (into i k e) in
            ((li, vi), (lk, vk), n)

    -- tests of the places and of the agreement test the limits
    pub limits_tested : {t : Bool} → Decides t (PlacesHeld × Agree b.after b.before) → t ≡ within_limits b
    limits_tested d =
        same_decision
        (restated d (λ h. held_within h.0 h.1) (λ w. (within_held w, λ i k li lk. w.twice i k)))
        (decides_limits b)
