-- `Page::number` meets its contract: the sign, and at most ten digits.
use Rattle.std.proofs.Common.{arith, sym, ◌∙◌}
use Rattle.text_decimals.specs.Magnitude.{magnitude_length}
use Rattle.text_decimals.specs.Written.{Written}
use Rattle.text_decimals.specs.DigitsWritten.{sign, no_sign, minus_sign, signed_written}
use Rattle.text_decimals.proofs.Page.number.Goals as goal
use Rattle.text_decimals.proofs.Page.number.Goals.{then-is_negative, else-is_negative}

pub digits-requires : goal.digits-requires
digits-requires c =
    let few = magnitude_length c.args.z c.ranges.z (c.into.ensures ∙ c.unsigned_abs.ensures.value) in
    elim c.if-is_negative.branch [ then-is_negative w ↦ rw w.self-is (omega (arith, w.byte.ensures, few)) | else-is_negative w ↦ rw w.self-is (omega (arith, few)) ]

pub returns : goal.returns
returns c =
    let z = c.args.z in
    let signed : Written c.args.self.now c.if-is_negative.self (sign z) 1 =
    elim c.if-is_negative.branch [
      | then-is_negative w ↦ rw w.self-is (minus_sign z c.ranges.z (sym c.is_negative.ensures ∙ w.if-is_negative.true) w.byte.ensures)
      | else-is_negative w ↦ rw w.self-is (no_sign z c.ranges.z _ (sym c.is_negative.ensures ∙ w.if-is_negative.false))
    ] in
    signed_written z c.ranges.z (c.into.ensures ∙ c.unsigned_abs.ensures.value) signed c.digits.ensures
