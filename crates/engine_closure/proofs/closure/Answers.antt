-- `engine_closure::closure` meets its contract: whichever inferences come first, the board stays below every closed board above
-- the one handed in.
use Rattle.paper_rules.specs.Update.AloneLaws.{alone_then}
use Rattle.engine_closure.specs.LedClosed.{arrays_none, led_closed, led_updates, led_placed, led_next, led_less, led_contradicts}
use Rattle.engine_closure.proofs.closure.Goals as goal

pub returns-in_err-marks-clause-closed : goal.returns-in_err-marks-clause-closed
returns-in_err-marks-clause-closed c = rw c.from_residual.ensures (arrays_none _ _ c.requires c.loop-marks.invariant.0 c.in_err-marks.ensures.advances)

pub returns-in_default-clause-closed : goal.returns-in_default-clause-closed
returns-in_default-clause-closed c = led_closed _ _ _ c.requires c.loop-marks.invariant.0 _ _ c.in_ok-marks.ensures.advances c.in_default.ensures

pub update-requires : goal.update-requires
update-requires c =
    led_updates _ _ _ c.requires c.loop-marks.invariant.0 _ _ c.in_ok-marks.ensures.advances _ c.in-Some.ensures

pub returns-in_err-update-clause-closed : goal.returns-in_err-update-clause-closed
returns-in_err-update-clause-closed c =
    rw c.from_residual-in_err-update.ensures
    (led_contradicts _ _ _ c.requires c.loop-marks.invariant.0 _ _ c.in_ok-marks.ensures.advances _ c.in-Some.ensures c.in_err-update.ensures.updated)

pub concerned-due-requires : goal.concerned-due-requires
concerned-due-requires c =
    led_placed _ _ _ c.requires c.loop-marks.invariant.0 _ _ c.in_ok-marks.ensures.advances _ c.in-Some.ensures

pub loop-marks-smaller : goal.loop-marks-smaller
loop-marks-smaller c =
    led_less _ _ _ c.requires c.loop-marks.invariant.0 _ _ c.in_ok-marks.ensures.advances _ c.in-Some.ensures _ c.in_ok-update.ensures.updated

pub loop-marks-preserved : goal.loop-marks-preserved
loop-marks-preserved c =
    let (run, alone) = c.loop-marks.invariant in
    let advanced = c.in_ok-marks.ensures in
    let step = c.in_ok-update.ensures in
    let start = c.args.board.now in
    let next = c.advance.new.board in (
      led_next _ _ _ c.requires run _ _ advanced.advances _ c.in-Some.ensures _ step.updated,
      alone_then start next c.update.new.board (alone_then start c.loop-marks.board next alone advanced.kept) step.kept,
    )
