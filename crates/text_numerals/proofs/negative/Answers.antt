-- `negative` meets its contract: what is read is a natural number of at most 7 digits.
use Rattle.std.proofs.Common.{sym, ◌∙◌, arith}
use Rattle.text_numerals.specs.NaturalRead.{natural_found}
use Rattle.text_numerals.specs.Negative.{few_bytes, difference_fits, other_is_negative}
use Rattle.text_numerals.proofs.negative.Goals as goal

pub overflow_add-result : goal.overflow_add-result
overflow_add-result c =
    record { fits = omega (arith, few_bytes _ _ _ (natural_found _ _ _ (sym c.natural.ensures ∙ c.in_ok-length.was))) }

pub overflow_sub-result : goal.overflow_sub-result
overflow_sub-result c = difference_fits _ _ _ (natural_found _ _ _ (sym c.natural.ensures ∙ c.in_ok-length.was))

pub returns : goal.returns
returns c =
    let found = sym c.natural.ensures ∙ c.in_ok-length.was in
    rw found (other_is_negative _ _ _ (natural_found _ _ _ found) c.if-value-eq0.false)
