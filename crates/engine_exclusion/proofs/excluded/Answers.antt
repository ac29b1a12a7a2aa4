-- `engine_exclusion::excluded` meets its contract: one job after the other. Assumes nothing.
use Rattle.engine_exclusion.specs.Gone.{crossed_none, crossed_more}
use Rattle.engine_exclusion.proofs.excluded.Goals as goal

pub loop-k-init : goal.loop-k-init
loop-k-init c = (λ x e. cc, crossed_none _ _ _)

pub loop-k-preserved : goal.loop-k-preserved
loop-k-preserved c =
    let (left, found) = c.loop-k.invariant in
    let taken = c.in-Some.ensures.steps.1 in (
      λ x e. left x (taken.inside x e),
      crossed_more _ _ _ _ _ found (left _ taken.member) _ _ c.intersection.ensures c.union-found.ensures,
    )
