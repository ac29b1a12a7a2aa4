-- `engine_agreement::agree` meets its contract: the transpose of the one side is compared with the other.
use Rattle.std.proofs.Common.{rules}
use Rattle.engine_agreement.specs.Agree.{Narrow, differences_agree}
use Rattle.engine_agreement.proofs.agree.Goals as goal

pub returns : goal.returns
returns c =
    let transposed : Narrow c.transpose-transposed.result = (search rules, search rules) in
    let before : Narrow c.args.before.now = (search rules, search rules) in
    rw c.differences.ensures
    (differences_agree c.args.after.now c.args.before.now c.transpose-transposed.result c.transpose-transposed.ensures transposed before)
