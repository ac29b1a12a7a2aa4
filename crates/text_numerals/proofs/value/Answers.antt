-- `value` meets its contract: the sum is the value of the digits passed.
use Rattle.std.proofs.Common.{ℕ, List, ◌≡◌, ◌≤◌, ◌<◌, true, pos, length, take, take_all, ap, ◌∙◌, arith}
use Rattle.std.specs.Int.{w32}
use mir.ValLaws.{to_z_pos}
use Rattle.text_numerals.specs.DigitsRead.{digit_at, DigitAt}
use Rattle.text_numerals.specs.NaturalRead.{natural_parts}
use Rattle.text_numerals.specs.Numerals.{digits, value, is_natural}
use Rattle.text_numerals.specs.Value.{value_short, value_go_on}
use Rattle.text_numerals.proofs.value.Goals as goal

module _ (t : List ℕ) (k : ℕ) (all : digits t ≡ t) where
  short : (s : ℕ) → k ≤ length t → is_natural t ≡ true → s ≡ value (take k t) → s < 10000000
  short s within is same = omega (arith, same, rw all at (value_short t k (rw all within) (omega (arith, (natural_parts t is).few))))

  digit : k < length t → DigitAt t (digits t) k
  digit h = digit_at t k (rw all h)

pub overflow_mul-sum : goal.overflow_mul-sum
overflow_mul-sum c = record { fits = omega (arith, short _ _ c.requires.all_digits c.loop-digit.sum c.loop-digit.auto.digit-index-end c.requires.natural c.loop-digit.invariant) }

pub overflow_sub-digit : goal.overflow_sub-digit
overflow_sub-digit c = (digit _ _ c.requires.all_digits c.loop-digit-test.true).low

pub overflow_add-sum : goal.overflow_add-sum
overflow_add-sum c = record { fits = omega (arith, (digit _ _ c.requires.all_digits c.loop-digit-test.true).high, short _ _ c.requires.all_digits c.loop-digit.sum c.loop-digit.auto.digit-index-end c.requires.natural c.loop-digit.invariant) }

pub loop-digit-preserved : goal.loop-digit-preserved
loop-digit-preserved c =
    let all = c.requires.all_digits in
    omega (arith, c.loop-digit.invariant, rw all at (value_go_on c.args.digits.now c.loop-digit.digit-index (rw all c.loop-digit-test.true)))

pub overflow_cast-result : goal.overflow_cast-result
overflow_cast-result c = record { sfits = omega (arith, short _ _ c.requires.all_digits c.loop-digit.sum c.loop-digit.auto.digit-index-end c.requires.natural c.loop-digit.invariant) }

pub returns : goal.returns
returns c =
    let few = short _ _ c.requires.all_digits c.loop-digit.sum c.loop-digit.auto.digit-index-end c.requires.natural c.loop-digit.invariant in
    to_z_pos w32 c.loop-digit.sum (omega (arith, few)) ∙ ap pos (c.loop-digit.invariant ∙ ap value (take_all c.loop-digit.digit-index c.args.digits.now c.loop-digit-test.false))
