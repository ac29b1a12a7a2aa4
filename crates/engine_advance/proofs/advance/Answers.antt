-- `engine_advance::advance` meets its contract: propagation, and what it finds can't stay.
use Rattle.std.proofs.Common.{sym, ◌∙◌}
use Rattle.paper_rules.specs.Update.AloneLaws.{alone_filled, alone_struck, alone_then}
use Rattle.engine_advance.specs.Advances.{advanced, advanced_none, advanced_struck}
use Rattle.engine_search.specs.Reads.{arrays_hold}
use Rattle.engine_advance.proofs.advance.Goals as goal

pub propagate-stuck-requires : goal.propagate-stuck-requires
propagate-stuck-requires c = arrays_hold _ c.requires

pub returns-then-stuck-eq0-clause-advances : goal.returns-then-stuck-eq0-clause-advances
returns-then-stuck-eq0-clause-advances c =
    let m = c.of-marks.ensures in
    let e = c.propagate-stuck.ensures in
    advanced c.args.board.now c.propagate-stuck.new.board c.requires _ _ m.live m.valid e.kept _ e.onward e.shut

pub returns-then-intersection-ne0-clause-advances : goal.returns-then-intersection-ne0-clause-advances
returns-then-intersection-ne0-clause-advances c =
    let m = c.of-marks.ensures in
    let e = c.propagate-stuck.ensures in
    advanced_none c.args.board.now c.propagate-stuck.new.board c.requires _ _ m.live m.valid e.kept _ e.onward e.shut _
    c.intersection.ensures c.if-intersection-ne0.true c.intersection.type_inv

pub returns-clause-kept : goal.returns-clause-kept
returns-clause-kept c =
    let start = c.args.board.now in
    let end = c.propagate-stuck.new.board in
    alone_then start end c.strike.new.board (alone_filled start end _ _ _ _ _ _ c.propagate-stuck.ensures.kept) (alone_struck end _ _ c.strike.ensures)

pub returns-clause-advances : goal.returns-clause-advances
returns-clause-advances c =
    let m = c.of-marks.ensures in
    let e = c.propagate-stuck.ensures in
    advanced_struck c.args.board.now c.propagate-stuck.new.board c.requires _ _ m.live m.valid e.kept _ e.onward e.shut
    (sym c.intersection.ensures ∙ c.if-intersection-ne0.false) _ c.difference.ensures _ c.strike.ensures
