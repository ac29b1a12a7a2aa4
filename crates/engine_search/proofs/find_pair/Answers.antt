-- `engine_search::find_pair` meets its contract, for any board that the arrays are read from: in the walk over rows, and in a row over its
-- partners, nothing is left to infer at those passed. Assumes nothing.
use Rattle.std.proofs.Common.{rules, ◌≡◌, refl, ap, subst, ◌∙◌, not, ◌<◌, ◌^◌, get_or, w32}
use Rattle.std.proofs.lemmas.Int.{to_z-of_z}
use Rattle.ground_walks.specs.Walk.{visited, none_left}
use Rattle.ground_arithmetic.specs.Bools.{refuted}
use Rattle.paper_board.specs.declared.Board.{Board}
use Rattle.paper_board.specs.Paper.View.{view}
use Rattle.engine_pair_rules.specs.PairSearched.{PairRead}
use Rattle.engine_partners.specs.RowRead.{pair_read}
use Rattle.engine_partners.specs.PairSettled.{PairsLeft, obeys_settled}
use Rattle.engine_search.specs.PairsWalk.{BoardRead, RowsLeft, all_left, row_read}
use Rattle.engine_search.proofs.find_pair.Goals as goal
use Rattle.engine_search.proofs.find_pair.Goals.{After-ends_late}

-- what is read at the pair
read : (c : After-ends_late) (b : Board)
    → let a = c.args in
    let before = a.arcs.before.now in
    let after = a.arcs.after.now in
    let i = c.in-Some.i in
    let k = c.in-Some-k.k in
    BoardRead b a.sets.live a.sets.valid a.windows.earliest.now a.windows.latest.now a.windows.lengths.now before after
    → PairRead (view b) i k a.sets.valid (get_or after i 0) (get_or before i 0) (get_or after k 0) c.ends_late.result
read c b h =
    let end =
    to_z-of_z w32 _ (record { sfits = c.end-end.type_inv })
    ∙ (rw (c.on-starts.ensures.side, c.on-starts.ensures.times, c.on-starts.ensures.lengths) at c.end-end.ensures) in
    let row = row_read h _ ((c.pairs.invariant.1 b h).member _ c.in-Some.ensures.steps.1.member) _ end in
    let apart = (c.loop-k.invariant.1 b h).member _ c.in-Some-k.ensures.steps.1.member in
    pair_read row _ apart _ (rw (c.on-ends.ensures.times, c.on-ends.ensures.lengths) at c.ends_late.ensures)

pub pairs-init : goal.pairs-init
pairs-init c =
    let start : c.into_iter-i-iterator.result.left ≡ c.args.sets.live = cc in
    let fits : c.args.sets.live < 2 ^ 64 = search rules in
    (refl, λ b h. rw start (all_left h fits _))

pub pairs-preserved : goal.pairs-preserved
pairs-preserved c =
    let inv = c.loop-k.invariant in (
      inv.0,
      λ b h. visited (c.pairs.invariant.1 b h) c.in-Some.ensures.steps.1
          (none_left (subst (PairsLeft (view b) c.in-Some.i) c.in-None-k.ensures.steps.1.0 (inv.1 b h))),
    )

pub loop-k-preserved : goal.loop-k-preserved
loop-k-preserved c =
    let inv = c.loop-k.invariant in (
      inv.0,
      λ b h.
          let tested = c.applies.ensures (view b) (read c.before.before.before b h) in
          visited (inv.1 b h) c.in-Some-k.ensures.steps.1 (obeys_settled (view b) _ _ (tested.yes (ap not c.if-applies.false))),
    )

pub returns-in-None : goal.returns-in-None
returns-in-None c =
    let inv = c.pairs.invariant in
    rw inv.0 λ b h. none_left (subst (RowsLeft (view b)) c.in-None.ensures.steps.1.0 (inv.1 b h))

pub returns-then-applies : goal.returns-then-applies
returns-then-applies c = (
  record {
    first = c.in-Some.ensures.steps.1.width;
    second = c.in-Some-k.ensures.steps.1.width;
    applies = λ b h.
        let p = read c.before.before.before b h in
        let tested = c.applies.ensures (view b) p in
        (λ obeys. refuted (ap not c.if-applies.true) (tested.show obeys), p.first, (p.second, p.differ));
  },
  λ b h. read c.before.before.before b h,
)
