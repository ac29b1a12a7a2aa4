-- `call_placements::starts` meets its contract: each turn stores the start of one job more, and the dock is free from its end on. Assumes nothing.
use Rattle.std.proofs.Common.{◌≡◌, ℕ, ◌<◌, List, ◌∷◌, length, take, reverse, get_or, pos, SFits, w32, arith, rules}
use Rattle.std.proofs.Math.Facts.{to_z-of_z}
use Rattle.paper_board.specs.declared.Board.{Board}
use Rattle.paper_board.specs.Paper.Limits.{Within}
use Rattle.paper_board.specs.Paper.View.{view}
use Rattle.paper_board.specs.BoardTests.Live.{valid_yes}
use Rattle.call_placements.specs.declared.stack.Placed.{Placed}
use Rattle.call_placements.specs.Stack.{jobs_of}
use Rattle.call_placements.specs.PlannerState.{EndInTime}
use Rattle.call_placements.specs.Starts.{one_more, turn_ends, none_listed, next_listed}
use Rattle.call_placements.proofs.starts.Goals as goal

-- what the code reads past the end of a list
abbrev first : Placed
first = record { job = 0; left = 0; free = pos 0 }

module _ (b : Board) (h : Within b) (items placed : List Placed) (k : ℕ) (one : Placed)
    (ends : EndInTime b (jobs_of placed)) (order : reverse items ≡ placed) (l : k < length items) where
  -- the job of a turn is one that ends in time
  turn : EndInTime b ((get_or items k one).job ∷ jobs_of (reverse (take k items)))
  turn = turn_ends b items k one (rw order ends) l

  turn_below : (get_or items k one).job < 64
  turn_below = omega (arith, (valid_yes (view b) _ turn.0.0).0, h.limits.jobs)

pub loop-placed-init : goal.loop-placed-init
loop-placed-init c = none_listed c.args.board.now c.requires.0

pub of-slot-requires : goal.of-slot-requires
of-slot-requires c =
    (c.requires.0, turn_below _ c.requires.0 _ _ _ _ c.requires.1 c.placed-placed-items.ensures c.loop-placed-test.true, c.loop-placed.invariant.dock.time)

pub offset_bounds-starts-placed : goal.offset_bounds-starts-placed
offset_bounds-starts-placed c =
    let below = turn_below c.args.board.now c.requires.0 c.placed-placed-items.result.now c.args.stack.now c.loop-placed.placed-index first c.requires.1 c.placed-placed-items.ensures c.loop-placed-test.true in
    record { fits = omega arith }

pub bounds-starts-placed : goal.bounds-starts-placed
bounds-starts-placed c = turn_below _ c.requires.0 _ _ _ _ c.requires.1 c.placed-placed-items.ensures c.loop-placed-test.true

pub loop-placed-preserved : goal.loop-placed-preserved
loop-placed-preserved c =
    let h = c.requires.0 in
    let k = c.loop-placed.placed-index in
    let items = c.placed-placed-items.result.now in
    let now = turn c.args.board.now h items c.args.stack.now k first c.requires.1 c.placed-placed-items.ensures c.loop-placed-test.true in
    let starts : SFits w32 c.of-slot.result.start = search rules in
    let ends : SFits w32 c.of-slot.result.end = search rules in
    rw (one_more items k first c.loop-placed-test.true)
    (simp (to_z-of_z, starts, ends) (next_listed _ h _ _ _ _ _ _ c.loop-placed.invariant now.0.1 c.of-slot.ensures.start c.of-slot.ensures.end))
