-- `Page::natural` meets its contract: an u64 has at most 20 digits.
use Rattle.std.proofs.Common.{arith}
use Rattle.text_decimals.specs.Digits.{natural_length}
use Rattle.text_decimals.specs.Written.{weaken_written}
use Rattle.text_decimals.proofs.Page.natural.Goals as goal

pub digits-requires : goal.digits-requires
digits-requires c = omega (arith, natural_length 20 c.args.n (omega arith) (omega arith))

pub returns : goal.returns
returns c = weaken_written c.digits.ensures (natural_length 20 c.args.n (omega arith) (omega arith))
