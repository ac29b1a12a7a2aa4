-- `engine_detection::detect_each` meets its contract: one job after the other. Assumes nothing.
use Rattle.engine_arcs.specs.Arcs.{arcs_alone_then}
use Rattle.engine_detection.specs.Detection.{Beside, sound_since, job_detected}
use Rattle.engine_detection.proofs.detect_each.Goals as goal

pub loop-job-preserved : goal.loop-job-preserved
loop-job-preserved c =
    let inv = c.loop-job.invariant in
    let taken = c.in-Some.ensures.steps.1 in
    let e = c.detect_beside-new.ensures in
    let start = c.args.board.now in
    let board = c.loop-job.board in
    let next = c.detect_beside-new.new.board in
    let near = rw c.without.ensures at c.difference-near.ensures in
    let beside = sound_since (Beside c.in-Some.job c.difference-near.result) start board next inv.kept e.sound in
    record {
      left = λ x m. inv.left x (taken.inside x m);
      kept = arcs_alone_then start board next inv.kept e.kept;
      run =
          job_detected _ _ _ _ _ _ _ c.ranges.others.fits _ _ inv.run _ _ _ taken.width (inv.left _ taken.member) c.kept_apart-apart.type_inv near _ _ beside;
    }
