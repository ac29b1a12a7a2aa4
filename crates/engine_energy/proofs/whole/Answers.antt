-- `engine_energy::whole` meets its contract. The loop's invariant: least is of the jobs passed, and total with the lengths of those left
-- comes to all lengths. Assumes nothing.
use Rattle.std.proofs.Common.{◌≡◌, List, ℕ, Bool, ℤ, pos, ◌+ℤ◌, w32, ◌∙◌}
use Rattle.std.proofs.lemmas.Int.{to_z-of_z}
use Rattle.ground_walks.specs.Takes.{Takes}
use Rattle.ground_arithmetic.specs.Linear.{whole, plus}
use Rattle.ground_arithmetic.specs.Sum.{total_member}
use Rattle.ground_sets.specs.Bit.{bit}
use Rattle.ground_arithmetic.specs.Time.{Moderate, lesser}
use Rattle.paper_board.specs.Paper.View.{Side}
use Rattle.paper_board.specs.Paper.Limits.{job_limit}
use Rattle.engine_sums.specs.Sums.{bound_at, length_at, Times, Lengths, load, Comes}
use Rattle.engine_sums.specs.SumLaws.{length_fits, length_at_moderate, load_range, load_none}
use Rattle.engine_energy.specs.Passed.{none_passed, all_passed, pass}
use Rattle.engine_energy.proofs.whole.Goals as goal
use Rattle.engine_energy.proofs.whole.Invariants.{Tested}

module _ {s : Side} {times lengths : List ℤ} {set left : ℕ} {low all : ℤ} (p : Tested s times lengths set left low all) where
  moderate : Lengths lengths → Moderate all
  moderate work =
      let (first, most) = load_range work (bit set) in
      let (least, high) = load_range work (bit left) in
      (omega (whole, p.loaded, plus all (load lengths left)), omega (whole, p.loaded, plus all (load lengths left)))

  all_tested : Times times → left ≡ 0 → Comes s times lengths set low all
  all_tested hours empty =
      record {
        least = all_passed hours p.passed empty;
        loaded = omega (whole, p.loaded, load_none lengths left empty, plus all (load lengths left));
      }

  add : {k rest : ℕ} {downward : Bool} → Takes job_limit downward left k rest
      → Tested s times lengths set rest (lesser low (bound_at s times k)) (all +ℤ length_at lengths k)
  add {k} {rest} taken =
      let fewer = total_member job_limit (bit left) (bit rest) (length_at lengths) k taken.width taken.member taken.out taken.others in
      let length = length_at lengths k in
      record {
        passed = pass p.passed taken;
        loaded = omega (whole, p.loaded, fewer, plus all (load lengths left), plus length (load lengths rest), plus all length, plus (all +ℤ length) (load lengths rest));
      }

pub loop-k-init : goal.loop-k-init
loop-k-init c =
    let start : c.into_iter-k-iterator.result.left ≡ c.args.set = cc in
    rw start
    (record {
      passed = none_passed _ _ _ c.ranges.set.fits;
      loaded = omega (whole, plus (pos 0) (load c.args.bounds.lengths.now c.args.set));
    })

pub sum-total-requires : goal.sum-total-requires
sum-total-requires c =
    let work = c.args.bounds.work in
    (moderate c.loop-k.invariant work, simp (to_z-of_z, length_fits work c.in-Some.k) (length_at_moderate work c.in-Some.k))

pub loop-k-preserved : goal.loop-k-preserved
loop-k-preserved c =
    let d = c.lesser-least in
    let bound_is = to_z-of_z w32 c.at.result (record { sfits = c.at.type_inv }) ∙ c.at.ensures in
    let least = to_z-of_z w32 d.result (record { sfits = d.type_inv }) ∙ (rw bound_is at d.ensures) in
    let sum = simp (to_z-of_z, length_fits c.args.bounds.work c.in-Some.k) at c.sum-total.ensures in
    rw (least, to_z-of_z w32 c.sum-total.result (record { sfits = c.sum-total.type_inv }), sum) (add c.loop-k.invariant c.in-Some.ensures.steps.1)

pub returns-clause-comes : goal.returns-clause-comes
returns-clause-comes c = all_tested c.loop-k.invariant c.args.bounds.hours c.in-None.ensures.steps.1.0
