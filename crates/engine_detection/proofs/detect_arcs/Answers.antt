-- `engine_detection::detect_arcs` meets its contract: all jobs that it takes are live. Assumes nothing.
use Rattle.paper_board.specs.BoardTests.Sets.{subset_intersection}
use Rattle.engine_detection.specs.Detection.{all_detected}
use Rattle.engine_detection.proofs.detect_arcs.Goals as goal

pub returns-clause-sound : goal.returns-clause-sound
returns-clause-sound c =
    let moved = c.intersection-moved.ensures in
    all_detected _ _ _ _ _ _ _ _ (rw moved (subset_intersection _ _).1) c.candidates-others.ensures _ _ c.detect_each.ensures.sound
