-- `engine_propagation::propagate` meets its contract: one turn after the other. Assumes nothing.
use Rattle.std.proofs.Common.{◌≡◌, refl, ap, ◌∙◌}
use Rattle.engine_propagation.specs.Turns.{tabled, run_none, run_on, run_onward}
use Rattle.engine_propagation.proofs.propagate.Goals as goal

pub loop-init : goal.loop-init
loop-init c =
    record {
      hours = c.requires;
      kept = refl;
      run = run_none _ _ _ _ _ _ _;
    }

pub loop-preserved : goal.loop-preserved
loop-preserved c =
    let inv = c.loop.invariant in
    let e = c.turn-next.ensures in
    let n = c.turn-next.new.board in
    let same : c.loop.board.lengths ≡ c.args.board.now.lengths = ap (λ b. b.lengths) inv.kept in
    record {
      hours = e.hours;
      kept = e.kept ∙ ap (λ b. tabled b n.earliest n.latest n.before n.after) inv.kept;
      run = run_on _ _ _ _ _ _ _ _ _ _ _ _ _ inv.run _ _ _ _ _ _ _ (rw same at e.onward) (rw same at e.shut) c.difference-rest.ensures c.union-stuck.ensures;
    }

pub returns-after-loop-clause-onward : goal.returns-after-loop-clause-onward
returns-after-loop-clause-onward c = run_onward _ _ _ _ _ _ _ _ _ _ _ _ _ c.loop.invariant.run

pub returns-then-is_done-clause-onward : goal.returns-then-is_done-clause-onward
returns-then-is_done-clause-onward c = run_onward _ _ _ _ _ _ _ _ _ _ _ _ _ c.loop.invariant.run
