-- `engine_propagation::propagate` meets its contract: one turn after the other. Assumes nothing.
use Rattle.engine_detection.specs.Detection.{WindowsInRange}
use Rattle.engine_propagation.specs.Turns.{TablesAlone, Run}
use Rattle.engine_propagation.proofs.propagate.Given as goal

abbrev pub invariant-loop : goal.invariant-loop
invariant-loop l =
    let b = l.initial.board in
    let c = l.board in
    record {
      hours : WindowsInRange c;
      kept : TablesAlone b c;
      run : Run l.marks.live l.rest l.marks.valid b.lengths b.earliest b.latest b.before b.after c.earliest c.latest c.before c.after l.stuck;
    }
