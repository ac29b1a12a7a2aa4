-- `engine_pair_rules::Pair::unjoined` meets its contract, member by member. Assumes nothing.
use Rattle.std.proofs.Common.{rules, sym, ap, ◌∙◌, not, ◌&&◌, ◌<◌, ◌^◌}
use Rattle.ground_sets.specs.Bit.{bit}
use Rattle.ground_sets.specs.BitLaws.{bit_zero, bit_intersection, bit_difference, bit_without, without_lt}
use Rattle.engine_pair_rules.proofs.Pair.unjoined.Goals as goal

pub returns-then-not-has : goal.returns-then-not-has
returns-then-not-has c =
    let p = c.args.self in
    let through = ap (λ w. bit w p.second) c.intersection-through.ensures ∙ bit_intersection p.valid p.after p.second in
    record { width = search rules; members = λ x. rw (sym through ∙ sym c.has.ensures ∙ c.if-not-has.true) (bit_zero x) }

pub returns : goal.returns
returns c =
    let p = c.args.self in
    let through = ap (λ w. bit w p.second) c.intersection-through.ensures ∙ bit_intersection p.valid p.after p.second in
    let met = sym through ∙ sym c.has.ensures ∙ c.if-not-has.false in
    let onward : p.onward < 2 ^ 64 = search rules in
    let after : p.after < 2 ^ 64 = search rules in
    record {
      width = search rules;
      members = λ x.
          rw (met, c.difference.ensures, c.without.ensures)
          (bit_difference 64 _ p.after x (without_lt 64 p.onward p.first onward) after
          ∙ ap (λ t. t && not (bit p.after x)) (bit_without 64 p.onward p.first x onward p.places.0));
    }
