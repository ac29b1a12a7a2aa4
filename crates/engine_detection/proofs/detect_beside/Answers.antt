-- `engine_detection::detect_beside` meets its contract: one pair after the other. Assumes nothing.
use Rattle.engine_arcs.specs.Arcs.{arcs_alone_then}
use Rattle.engine_detection.specs.Detection.{Pair, sound_since, beside_more}
use Rattle.engine_detection.proofs.detect_beside.Goals as goal

pub loop-k-preserved : goal.loop-k-preserved
loop-k-preserved c =
    let inv = c.loop-k.invariant in
    let taken = c.in-Some.ensures.steps.1 in
    let e = c.detect_on.ensures in
    let start = c.args.board.now in
    let board = c.loop-k.board in
    let next = c.detect_on.new.board in
    let pair = sound_since (Pair c.args.job c.in-Some.k) start board next inv.kept e.sound in
    record {
      left = λ x m. inv.left x (taken.inside x m);
      kept = arcs_alone_then start board next inv.kept e.kept;
      run = beside_more _ _ _ _ _ _ _ _ _ inv.run _ (inv.left _ taken.member) _ _ pair;
    }
