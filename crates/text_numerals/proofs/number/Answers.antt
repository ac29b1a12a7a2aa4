-- `number` meets its contract: the bytes after a minus, or all of them.
use Rattle.std.proofs.Common.{◌∙◌}
use Rattle.text_numerals.specs.NumberFirst.{minus_first, other_first}
use Rattle.text_numerals.proofs.number.Goals as goal

pub returns-in-Some : goal.returns-in-Some
returns-in-Some c = c.negative.ensures ∙ minus_first _ _ c.in-Some.ensures.cases

pub returns-in-None : goal.returns-in-None
returns-in-None c = c.natural.ensures ∙ other_first _ c.in-None.ensures.cases
