-- A fact that a rule infers, and that a board within its limits doesn't show yet, is one that an update by the code can take:
-- the time that R4 or R5 gives is far from the ends of an i32.
use Rattle.std.specs.Prelude.{ℕ, ℤ, ◌+ℤ◌}
use Rattle.std.specs.Int.Signed.{le_z}
use Rattle.ground_arithmetic.specs.Bools.{is_false}
use Rattle.ground_arithmetic.specs.Linear.{whole, plus}
use Rattle.ground_arithmetic.specs.Sum.{total_range}
use Rattle.ground_arithmetic.specs.Time.{Moderate}
use Rattle.paper_board.specs.declared.Board.{Board}
use Rattle.paper_board.specs.declared.facts.Fact as Facts
use Rattle.paper_board.specs.Paper.View.{Side, Live, bound, view, row_of}
use Rattle.paper_board.specs.Paper.Facts.{is_bound, Holds}
use Rattle.paper_board.specs.Paper.Limits.{IsTime, Within}
use Rattle.paper_rules.specs.Paper.Rules.{energy}
use Rattle.paper_board.specs.Paper.Values.{side_of, fact_of}
use Rattle.paper_rules.specs.Inference.Infers.{Infers, r45}
use Rattle.paper_rules.specs.Inference.Forced.{valid_live}
use Rattle.paper_board.specs.BoardTests.Ranges.{ranges}
use Rattle.paper_board.specs.BoardTests.BoundTime.{bound_time}
use Rattle.engine_updates.specs.Applicable.{Applicable}
use Rattle.engine_precedence.specs.ModerateTime.{moderate_time}

module _ (b : Board) (within : Within b) where
  time : (s : Side) (j : ℕ) → Live (view b) j → IsTime (bound s (row_of b j))
  time s j l = bound_time s (row_of b j) ((within.limits.rows j).live l.0 l.1)

  -- a new bound is above the old one, and at most all the lengths above a bound of another job
  bound_moderate : (s : Side) (j : ℕ) (z : ℤ) → Infers (view b) (is_bound s j z) → (Holds (view b) (is_bound s j z) → ⊥) → Moderate z
  bound_moderate _ _ _ (r45 s j S m lj p) unshown =
      let sum = m +ℤ energy (view b) S in
      let higher = is_false (le_z sum (bound s (row_of b j))) λ e. unshown (lj.0, λ _. omega whole) in
      let member = valid_live (view b) p.member (p.valid p.member p.inside) in
      let lengths = total_range b.jobs 10000 S (λ k. (row_of b k).length) λ k. ((ranges b within k).low, (ranges b within k).high) in (
        omega (whole, higher, (time s j lj).low),
        omega (
          whole,
          plus m (energy (view b) S),
          p.low p.member p.inside,
          (time s p.member member).high,
          lengths.1,
          within.limits.jobs,
        ),
      )

  pub inferred_applicable : (f : Facts.Fact) → Infers (view b) (fact_of f) → (Holds (view b) (fact_of f) → ⊥) → Applicable f
  inferred_applicable (Facts.TheVariants.Arc i k) _ _ = tt
  inferred_applicable (Facts.TheVariants.Bound s j t) infers unshown = moderate_time (side_of s) t (bound_moderate (side_of s) j _ infers unshown)
  inferred_applicable (Facts.TheVariants.Valid j) _ _ = tt
  inferred_applicable (Facts.TheVariants.Invalid j) _ _ = tt
