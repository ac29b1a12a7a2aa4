-- `engine_transitivity::join_through` meets its contract: one row after the other. Assumes nothing.
use Rattle.engine_arcs.specs.Arcs.{arcs_alone_then}
use Rattle.engine_transitivity.specs.Transitivity.{row_joined}
use Rattle.engine_transitivity.proofs.join_through.Goals as goal

pub loop-from-preserved : goal.loop-from-preserved
loop-from-preserved c =
    let inv = c.loop-from.invariant in
    let taken = c.in-Some.ensures.steps.1 in
    let e = c.join-new.ensures in
    let member = c.requires.1 _ (inv.left _ taken.member) in
    record {
      left = λ x e. inv.left x (taken.inside x e);
      kept = arcs_alone_then c.args.board.now c.loop-from.board c.join-new.new.board inv.kept e.kept;
      run = row_joined _ _ _ _ _ inv.run _ member _ _ e.sound;
    }
