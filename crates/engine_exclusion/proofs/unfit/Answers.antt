-- `engine_exclusion::unfit` meets its contract: one job after the other. Assumes nothing.
use Rattle.std.proofs.Common.{sym, to_z-of_z}
use Rattle.engine_sums.specs.SumLaws.{time_fits, length_fits}
use Rattle.engine_exclusion.specs.Gone.{unfit_none, unfit_more}
use Rattle.engine_exclusion.proofs.unfit.Goals as goal

pub loop-k-init : goal.loop-k-init
loop-k-init c = (λ x e. cc, unfit_none _ _ _ _)

pub loop-k-preserved-then-not-holds : goal.loop-k-preserved-then-not-holds
loop-k-preserved-then-not-holds c =
    let w = c.args.windows in
    let (left, found) = c.loop-k.invariant in
    let taken = c.in-Some.ensures.steps.1 in
    let k = c.in-Some.k in
    let short =
    simp (to_z-of_z, time_fits (w.early.time k), time_fits (w.late.time k), length_fits w.work k) at
    (rw c.if-not-holds.true at c.holds.ensures) in
    (λ x e. left x (taken.inside x e), rw c.with-found.ensures (unfit_more _ _ _ _ _ _ found (left _ taken.member) (sym short)))
