-- `engine_precedence::push_job` meets its contract: the bound is what R4 or R5 infers. Assumes nothing.
use Rattle.std.proofs.Common.{rules, ◌≡◌, sym, true, List, ℕ, ℤ, pos, w32, SFits}
use Rattle.std.specs.Prelude as std
use Rattle.std.proofs.Math.Option.{some}
use Rattle.std.proofs.Math.Seq.{get_or-set_other}
use Rattle.std.proofs.lemmas.Int.{to_z-of_z}
use Rattle.std.specs.Int.Signed.{lt_z}
use Rattle.paper_board.specs.Paper.View.{Side}
use Rattle.paper_board.specs.Paper.Values.{side_of, turned}
use Rattle.paper_board.specs.BoardTests.Ranges.{time_moderate}
use Rattle.engine_sums.specs.Sums.{Pushes, bound_at}
use Rattle.engine_sums.specs.SumLaws.{time_fits, length_fits, length_at_moderate}
use Rattle.engine_leading.specs.declared.Leading.{Leading}
use Rattle.engine_leading.specs.Leading.{Leaves}
use Rattle.engine_precedence.specs.ModerateTime.{found_below}
use Rattle.engine_precedence.specs.Precedence.{raises_none, raises_then, shuts_none, shuts_job, times_set, room_time, pushed_moderate}
use Rattle.engine_precedence.proofs.push_job.Goals as goal

-- a bound known that is above the job's own pushes the job
pushes : (s : Side) {times lengths : List ℤ} {known : std.Option Leading} {l : Leading} (j : ℕ) → Leaves s times lengths known → known ≡ std.Some l
    → lt_z (bound_at s times j) (turned s l.time) ≡ true → Pushes s times lengths l.set j (some (turned s l.time))
pushes s j leaves e lower = (rw e at leaves, found_below lower)

pub returns-in_default-clause-shuts : goal.returns-in_default-clause-shuts
returns-in_default-clause-shuts c = λ beyond e. rw c.default.ensures.1.0 (shuts_none _ _ _ _ _ _)

pub returns-then-not-is_lower-clause-raises : goal.returns-then-not-is_lower-clause-raises
returns-then-not-is_lower-clause-raises c = λ beyond e. raises_none _ _ _ _ _ _

pub returns-then-not-is_lower-clause-shuts : goal.returns-then-not-is_lower-clause-shuts
returns-then-not-is_lower-clause-shuts c = λ beyond e. rw c.default-then-not-is_lower.ensures.1.0 (shuts_none _ _ _ _ _ _)

pub holds-requires : goal.holds-requires
holds-requires c =
    let (_, hours, other, work, leaves) = c.requires in
    let k = c.args.job in
    let side = side_of c.args.side in
    let time : SFits w32 c.in-Some.field-0.time = search rules in
    let lower = sym (simp (to_z-of_z, time_fits (hours.time k), time) at c.if-not-is_lower.ensures) in
    simp (to_z-of_z, time, time_fits (other.time k), length_fits work k)
    (pushed_moderate side _ _ _ hours work (pushes side k leaves c.in-Some.is lower), time_moderate (other.time k), length_at_moderate work k)

pub returns-then-holds-clause-times : goal.returns-then-holds-clause-times
returns-then-holds-clause-times c =
    let (_, hours, other, work, leaves) = c.requires in
    let a = c.args in
    let k = a.job in
    let l = c.in-Some.field-0 in
    let time : SFits w32 l.time = search rules in
    let lower = sym (simp (to_z-of_z, time_fits (hours.time k), time) at c.if-not-is_lower.ensures) in
    let fits = sym (simp (to_z-of_z, time, time_fits (other.time k), length_fits work k) at c.if-holds.ensures) in
    let is = room_time (side_of a.side) _ _ _ _ (hours.time k) (other.time k) (work.low k) (found_below lower) fits in
    simp (to_z-of_z, time) (times_set _ hours k _ is, λ x. get_or-set_other a.times.now k x l.time (pos 0))

pub returns-then-holds-clause-raises : goal.returns-then-holds-clause-raises
returns-then-holds-clause-raises c = λ beyond e.
    let (_, hours, other, work, leaves) = c.requires in
    let k = c.args.job in
    let side = side_of c.args.side in
    let time : SFits w32 c.in-Some.field-0.time = search rules in
    let lower = sym (simp (to_z-of_z, time_fits (hours.time k), time) at c.if-not-is_lower.ensures) in
    let fits = sym (simp (to_z-of_z, time, time_fits (other.time k), length_fits work k) at c.if-holds.ensures) in
    let above = pushes side k leaves c.in-Some.is lower in
    simp (to_z-of_z, time) (raises_then side _ _ beyond _ _ _ (raises_none side _ _ _ _ _) k _ (rw (rw c.in-Some.is at e) at above) fits)

pub returns-then-holds-clause-shuts : goal.returns-then-holds-clause-shuts
returns-then-holds-clause-shuts c = λ beyond e. rw c.moved.ensures (shuts_none _ _ _ _ _ _)

pub returns-clause-raises : goal.returns-clause-raises
returns-clause-raises c = λ beyond e. raises_none _ _ _ _ _ _

pub returns-clause-shuts : goal.returns-clause-shuts
returns-clause-shuts c = λ beyond e.
    let (_, hours, other, work, leaves) = c.requires in
    let k = c.args.job in
    let side = side_of c.args.side in
    let time : SFits w32 c.in-Some.field-0.time = search rules in
    let lower = sym (simp (to_z-of_z, time_fits (hours.time k), time) at c.if-not-is_lower.ensures) in
    let full = sym (simp (to_z-of_z, time, time_fits (other.time k), length_fits work k) at c.if-holds.ensures) in
    let above = pushes side k leaves c.in-Some.is lower in
    shuts_job side _ _ _ _ _ k _ (rw (rw c.in-Some.is at e) at above) full _ c.with.ensures
