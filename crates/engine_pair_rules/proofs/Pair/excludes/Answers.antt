-- `engine_pair_rules::Pair::excludes` meets its contract: the arcs both ways are the intersection of the two sets. Assumes nothing.
use Rattle.std.proofs.Common.{◌≡◌, ap, ◌∙◌, ◌&&◌}
use Rattle.ground_sets.specs.Bit.{bit}
use Rattle.ground_sets.specs.BitLaws.{bit_intersection}
use Rattle.ground_arithmetic.specs.Bools.{and_asked, and_unasked}
use Rattle.engine_pair_rules.proofs.Pair.excludes.Goals as goal
use Rattle.engine_pair_rules.proofs.Pair.excludes.Goals.{After-has}

-- what the test of the intersection says
both : (c : After-has) → let p = c.args.self in c.has.result ≡ (bit p.after p.second && bit p.before p.second)
both c =
    let p = c.args.self in
    c.has.ensures ∙ ap (λ w. bit w p.second) c.intersection-both.ensures ∙ bit_intersection p.after p.before p.second

pub returns-then-has : goal.returns-then-has
returns-then-has c = and_asked (both c.before.before) c.if-has.true c.has-then-has.ensures

pub returns-else-has : goal.returns-else-has
returns-else-has c = and_unasked (both c.before) c.if-has.false _
