-- `engine_transposition::exchange` meets its contract: each iteration takes two words more.
use Rattle.std.proofs.Common.{rules, arith}
use Rattle.engine_transposition.specs.Transpose.{taken_more}
use Rattle.engine_transposition.proofs.exchange.Goals as goal

pub loop-i-preserved : goal.loop-i-preserved
loop-i-preserved c =
    let l = c.loop-i in
    let (size, taken) = l.invariant in (
      search rules,
      taken_more c.args.shift c.args.mask c.args.from.now l.i l.to _ _ (omega arith) size c.lower.ensures c.upper.ensures taken,
    )
