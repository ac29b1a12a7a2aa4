-- `engine_energy::strike` meets its contract. The loop's invariant: the jobs kept come from strikes, each one passed beats the best, least
-- is of those passed, and total is of all kept. Assumes nothing.
use Rattle.std.proofs.Common.{◌≡◌, ap, ◌∙◌, Bool, true, false, List, ℕ, ◌^◌, ◌<◌, ℤ, neg_ℤ, ◌+ℤ◌, ◌-ℤ◌, ◌<ℤ◌, ◌≤ℤ◌, w32, to_z, of_z}
use Rattle.std.proofs.Math.Path.{subst⁻¹}
use Rattle.std.specs.Int.Signed.{le_z}
use Rattle.std.proofs.lemmas.Int.{to_z-of_z}
use Rattle.ground_sets.specs.Bit.{bit, without}
use Rattle.ground_walks.specs.Takes.{Takes}
use Rattle.ground_sets.specs.BitLaws.{bit_zero}
use Rattle.ground_walks.specs.Walk.{taken_out}
use Rattle.ground_arithmetic.specs.Bools.{refuted}
use Rattle.ground_arithmetic.specs.Linear.{whole, plus, minus}
use Rattle.ground_arithmetic.specs.Sum.{total_subset}
use Rattle.ground_arithmetic.specs.Time.{Moderate, lesser}
use Rattle.paper_board.specs.Paper.View.{Side}
use Rattle.paper_board.specs.Paper.Limits.{job_limit, last_minute}
use Rattle.paper_board.specs.Paper.Values.{side_of}
use Rattle.engine_sums.specs.Sums.{bound_at, length_at, Lengths, load, none_struck, struck, Beats}
use Rattle.engine_sums.specs.SumLaws.{bound_moderate, length_fits, length_at_moderate, load_moderate, strikes_inside}
use Rattle.engine_sums.specs.TotalWithout.{total_without}
use Rattle.engine_energy.specs.Passed.{none_passed, all_passed, pass, pass_struck, kept_passed}
use Rattle.engine_energy.proofs.strike.Goals as goal
use Rattle.engine_energy.proofs.strike.Invariants.{Tested}
use Rattle.engine_energy.proofs.strike.Goals.{After-at-low, After-sum}

module _ {s : Side} {times lengths : List ℤ} {best : ℤ} {set : ℕ} (fits : set < 2 ^ job_limit) where
  none_tested : (all : ℤ) → all ≡ load lengths set → Tested s times lengths best set set set last_minute all
  none_tested all loaded =
      record {
        passed = none_passed s times set fits;
        strikes = none_struck;
        over = λ j e out. absurd (refuted out e);
        loaded = loaded;
      }

  module _ {kept left : ℕ} {low all : ℤ} (p : Tested s times lengths best set kept left low all) where
    all_tested : left ≡ 0 → Beats s times lengths best set kept
    all_tested empty = record { over = λ k e. p.over k e (ap (λ w. bit w k) empty ∙ bit_zero k) }

    module _ {k rest : ℕ} {downward : Bool} (taken : Takes job_limit downward left k rest) where
      strike : le_z (bound_at s times k +ℤ all) best ≡ true
          → Tested s times lengths best set (without job_limit kept k) rest low (all -ℤ length_at lengths k)
      strike e =
          let member = p.passed.inside k taken.member in
          let less = load lengths (without job_limit kept k) in
          let length = length_at lengths k in
          let fewer = total_without job_limit kept k p.passed.fits taken.width member (length_at lengths) in
          let under : (bound_at s times k +ℤ load lengths kept) ≤ℤ best = omega (whole, p.loaded, plus (bound_at s times k) all, plus (bound_at s times k) (load lengths kept)) in
          record {
            passed = pass_struck p.passed taken;
            strikes = struck kept k p.strikes taken.width member under;
            over = kept_passed p.passed taken (λ j. best <ℤ (bound_at s times j +ℤ load lengths set)) p.over;
            loaded = omega (whole, p.loaded, fewer, plus length less, plus all (neg_ℤ length), minus length);
          }

      keep : Lengths lengths → le_z (bound_at s times k +ℤ all) best ≡ false
          → Tested s times lengths best set kept rest (lesser low (bound_at s times k)) all
      keep work e =
          let inside = (strikes_inside fits p.strikes).1 in
          let within = total_subset job_limit (bit kept) (bit set) (length_at lengths) (λ j m. inside j) (λ j m h. work.low j) in
          let beaten : best <ℤ (bound_at s times k +ℤ load lengths set) = omega (whole, p.loaded, within, plus (bound_at s times k) all, plus (bound_at s times k) (load lengths set)) in
          record {
            passed = pass p.passed taken;
            strikes = p.strikes;
            over = taken_out taken (λ j. best <ℤ (bound_at s times j +ℤ load lengths set)) (λ j. bit kept j ≡ true) p.over beaten;
            loaded = p.loaded;
          }

pub loop-k-init : goal.loop-k-init
loop-k-init c =
    let start : c.into_iter-k-iterator.result.left ≡ c.args.set = cc in
    rw start (none_tested c.ranges.set.fits _ (to_z-of_z w32 _ c.ranges.load ∙ c.requires.load_value))

-- a bound, as the machine reads it back from its bits
low_is : (c : After-at-low)
    → let b = c.args.bounds in
    to_z w32 (of_z w32 c.at-low.result) ≡ bound_at (side_of b.side) b.times.now c.in-Some.k
low_is c = to_z-of_z w32 _ (record { sfits = c.at-low.type_inv }) ∙ c.at-low.ensures

pub sum-requires : goal.sum-requires
sum-requires c =
    let b = c.args.bounds in
    (rw (low_is c) (bound_moderate (side_of b.side) b.hours c.in-Some.k), subst⁻¹ Moderate c.loop-k.invariant.loaded (load_moderate b.work _))

-- the bound with the total, as the machine reads it back from its bits
sum_is : (c : After-sum)
    → let b = c.args.bounds in
    to_z w32 (of_z w32 c.sum.result) ≡ bound_at (side_of b.side) b.times.now c.in-Some.k +ℤ to_z w32 c.loop-k.total-bits
sum_is c = to_z-of_z w32 _ (record { sfits = c.sum.type_inv }) ∙ (rw (low_is c.before) at c.sum.ensures)

pub gap-total-requires : goal.gap-total-requires
gap-total-requires c =
    let work = c.args.bounds.work in
    let k = c.in-Some.k in
    (subst⁻¹ Moderate c.loop-k.invariant.loaded (load_moderate work _), simp (to_z-of_z, length_fits work k) (length_at_moderate work k))

pub loop-k-preserved-then-sum-best : goal.loop-k-preserved-then-sum-best
loop-k-preserved-then-sum-best c =
    let less = simp (to_z-of_z, length_fits c.args.bounds.work c.in-Some.k) at c.gap-total.ensures in
    rw (c.without-kept.ensures, to_z-of_z w32 c.gap-total.result (record { sfits = c.gap-total.type_inv }), less)
    (strike c.ranges.set.fits c.loop-k.invariant c.in-Some.ensures.steps.1 (rw (sum_is c.before.before.before.before) at c.if-sum-best.true))

pub loop-k-preserved : goal.loop-k-preserved
loop-k-preserved c =
    let d = c.lesser-least in
    let least = to_z-of_z w32 d.result (record { sfits = d.type_inv }) ∙ (rw (low_is c.before.before.before) at d.ensures) in
    rw least (keep c.ranges.set.fits c.loop-k.invariant c.in-Some.ensures.steps.1 c.args.bounds.work (rw (sum_is c.before.before) at c.if-sum-best.false))

pub returns : goal.returns
returns c =
    let p = c.loop-k.invariant in
    let empty = c.in-None.ensures.steps.1.0 in
    let best = to_z-of_z w32 _ c.ranges.best in
    record {
      strikes = rw best at p.strikes;
      beats = rw best at (all_tested c.ranges.set.fits p empty);
      comes = record { least = all_passed c.args.bounds.hours p.passed empty; loaded = p.loaded };
    }
