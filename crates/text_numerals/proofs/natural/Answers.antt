-- `natural` meets its contract.
use Rattle.std.proofs.Common.{sym, ◌∙◌, SFits}
use Rattle.std.specs.Int.{w32}
use Rattle.std.proofs.lemmas.Int.{to_z-of_z}
use Rattle.text_numerals.specs.DigitsRead.{digits_again}
use Rattle.text_numerals.specs.Numerals.{natural_at}
use Rattle.text_numerals.proofs.natural.Goals as goal

pub returns-then-not-is_natural : goal.returns-then-not-is_natural
unfolding natural_at
returns-then-not-is_natural c = rw (← c.digits-digits.ensures, sym c.is_natural.ensures ∙ c.if-not-is_natural.true)

pub value-requires-clause-all_digits : goal.value-requires-clause-all_digits
value-requires-clause-all_digits c = rw c.digits-digits.ensures (digits_again c.args.text.now)

pub returns : goal.returns
unfolding natural_at
returns c =
    let fits : SFits w32 c.value.result = record { sfits = c.value.type_inv } in
    rw (← c.digits-digits.ensures, sym c.is_natural.ensures ∙ c.if-not-is_natural.false) (simp (to_z-of_z, fits) (rw c.value.ensures))
