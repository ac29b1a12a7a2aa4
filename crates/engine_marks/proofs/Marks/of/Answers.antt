-- `engine_marks::Marks::of` meets its contract, job by job. Assumes nothing.
use Rattle.std.proofs.Common.{◌<◌, arith, rules}
use Rattle.std.proofs.lemmas.List.{get_or-take}
use Rattle.engine_marks.proofs.Grown.{none_passed, grown}
use Rattle.engine_marks.proofs.Marks.of.Goals as goal

pub loop-k-init : goal.loop-k-init
loop-k-init c = (omega arith, none_passed _, none_passed _)

pub loop-k-preserved : goal.loop-k-preserved
loop-k-preserved c =
    let place : c.loop-k.k < c.args.board.now.jobs = search rules in
    let (_, live, valid) = c.loop-k.invariant in (
      omega arith,
      grown _ _ _ live _ (simp (get_or-take, place) at c.with_tested-live.ensures),
      grown _ _ _ valid _ (simp (get_or-take, place) at c.with_tested-valid.ensures),
    )
