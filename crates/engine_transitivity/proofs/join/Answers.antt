-- `engine_transitivity::join` meets its contract: R1 infers each arc that it sets. Assumes nothing.
use Rattle.std.proofs.Common.{◌≡◌, true, refl, ap}
use Rattle.ground_sets.specs.Bit.{bit}
use Rattle.paper_board.specs.BoardTests.Sets.{subset_intersection}
use Rattle.engine_arcs.specs.Arcs.{with_arcs, sound_none}
use Rattle.engine_transitivity.specs.Transitivity.{Forth, joined}
use Rattle.engine_transitivity.proofs.join.Goals as goal

pub loop-to-init : goal.loop-to-init
loop-to-init c =
    record {
      left = λ x e.
          let member : bit c.intersection-missing.result x ≡ true = cc in
          rw (c.difference-all.ensures, c.without-onward.ensures) at ((subset_intersection _ _).0 x (rw c.intersection-missing.ensures at member));
      kept = refl;
      run = sound_none (Forth _ _) _ _;
    }

pub loop-to-preserved : goal.loop-to-preserved
loop-to-preserved c =
    let inv = c.loop-to.invariant in
    let taken = c.in-Some.ensures.steps.1 in
    let place = c.requires.0 in
    record {
      left = λ x e. inv.left x (taken.inside x e);
      kept = ap (λ b. with_arcs b c.link.new.before c.link.new.after) inv.kept;
      run = joined _ _ _ _ _ _ place inv.run _ (inv.left _ taken.member) _ _ c.link.ensures.before_after c.link.ensures.after_after;
    }
