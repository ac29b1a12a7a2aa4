-- `value` meets its contract: the sum is the value of the digits passed.
use Rattle.std.proofs.Common.{◌≡◌, take}
use Rattle.text_numerals.specs.Numerals.{value}
use Rattle.text_numerals.proofs.value.Given as goal

abbrev pub invariant-loop-digit : goal.invariant-loop-digit
invariant-loop-digit l = l.sum ≡ value (take l.digit-index l.digits)
