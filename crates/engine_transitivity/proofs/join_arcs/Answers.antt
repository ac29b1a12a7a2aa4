-- `engine_transitivity::join_arcs` meets its contract: one valid job after the other. Assumes nothing.
use Rattle.paper_board.specs.BoardTests.Sets.{subset_intersection}
use Rattle.engine_arcs.specs.Arcs.{arcs_alone_then}
use Rattle.engine_transitivity.specs.Transitivity.{through_joined}
use Rattle.engine_transitivity.proofs.join_arcs.Goals as goal

pub join_through-new-requires : goal.join_through-new-requires
join_through-new-requires c =
    (c.in-Some.ensures.steps.1.width, rw c.intersection-sources.ensures (subset_intersection _ _).0)

pub loop-through-preserved : goal.loop-through-preserved
loop-through-preserved c =
    let inv = c.loop-through.invariant in
    let taken = c.in-Some.ensures.steps.1 in
    let e = c.join_through-new.ensures in
    record {
      left = λ x e. inv.left x (taken.inside x e);
      kept = arcs_alone_then c.args.board.now c.loop-through.board c.join_through-new.new.board inv.kept e.kept;
      run = through_joined _ _ _ _ _ inv.run _ (inv.left _ taken.member) _ _ e.sound;
    }
