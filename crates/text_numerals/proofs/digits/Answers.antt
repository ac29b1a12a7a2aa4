-- `digits` meets its contract: as many bytes as pass the test from the first on.
use Rattle.std.proofs.Common.{ap, ◌∙◌, take}
use Rattle.text_decimals.specs.Bytes.{is_digit}
use Rattle.text_numerals.specs.DigitsRead.{digits_are_first}
use Rattle.text_numerals.specs.Prefix.{prefix_length}
use Rattle.text_numerals.proofs.digits.Goals as goal

pub returns : goal.returns
returns c = ap (λ n. take n c.args.text.now) (c.digit_count.ensures ∙ prefix_length is_digit c.args.text.now) ∙ digits_are_first c.args.text.now
