-- `Page::digits` meets its contract: one digit, or those of a tenth and then the last.
use Rattle.std.proofs.Common.{arith}
use Rattle.text_decimals.specs.Digits.{length_small, length_more}
use Rattle.text_decimals.specs.DigitsWritten.{only_digit, last_digit}
use Rattle.text_decimals.proofs.Page.+digits.Goals as goal

pub byte-requires : goal.byte-requires
byte-requires t c = omega (arith, length_small)

pub returns-then-n-lt10 : goal.returns-then-n-lt10
returns-then-n-lt10 t c = search only_digit

pub digits-requires : goal.digits-requires
digits-requires t c = (omega arith, omega (arith, length_more))

pub byte-requires-2 : goal.byte-requires-2
byte-requires-2 t c = omega (arith, length_more)

pub returns : goal.returns
returns t c = search last_digit
