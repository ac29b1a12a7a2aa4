-- `engine_partners::excluded` meets its contract, member by member. Assumes nothing.
use Rattle.std.proofs.Common.{sym, ap, ◌∙◌}
use Rattle.std.proofs.Math.Bool.{and-true, and-false}
use Rattle.ground_sets.specs.Bit.{bit}
use Rattle.ground_sets.specs.BitLaws.{bit_zero, bit_intersection}
use Rattle.engine_partners.proofs.excluded.Goals as goal

pub returns-then-has : goal.returns-then-has
returns-then-has c = λ k.
    let a = c.args in
    let valid = sym c.has.ensures ∙ c.if-has.true in
    rw (valid, and-true) (ap (λ w. bit w k) c.intersection.ensures ∙ bit_intersection a.after a.before k)

pub returns : goal.returns
returns c = λ k. rw (sym c.has.ensures ∙ c.if-has.false, and-false) (bit_zero k)
