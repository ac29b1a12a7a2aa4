-- `engine_partners::kept_apart` meets its contract: the others are valid themselves. Assumes nothing.
use Rattle.std.proofs.Common.{sym, ap, ◌∙◌, inr}
use Rattle.ground_sets.specs.Bit.{bit}
use Rattle.ground_sets.specs.BitLaws.{bit_intersection}
use Rattle.ground_arithmetic.specs.Bools.{and_parts}
use Rattle.engine_partners.proofs.kept_apart.Goals as goal

pub returns : goal.returns
returns c =
    let a = c.args in
    record {
      width = c.intersection.type_inv;
      member = λ k e.
          let both = sym (ap (λ w. bit w k) c.intersection.ensures ∙ bit_intersection a.beside a.valid k) ∙ e in
          let (arc, valid) = and_parts (bit a.beside k) (bit a.valid k) both in
          (arc, inr valid);
    }
