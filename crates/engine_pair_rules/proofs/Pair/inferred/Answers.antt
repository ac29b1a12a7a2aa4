-- `engine_pair_rules::Pair::inferred` meets its contract: R2, R3 and R1, each by its own law. Assumes nothing.
use Rattle.std.proofs.Common.{sym, ◌∙◌}
use Rattle.engine_pair_rules.specs.PairSearched.{says_exclude, says_order, says_join, says_nothing}
use Rattle.engine_pair_rules.proofs.Pair.inferred.Goals as goal

pub returns-then-excludes : goal.returns-then-excludes
returns-then-excludes c =
    let p = c.args.self in
    says_exclude p.first p.second p.valid p.after p.before p.onward p.late (sym c.excludes.ensures ∙ c.if-excludes.true)

pub returns-then-orders : goal.returns-then-orders
returns-then-orders c =
    let p = c.args.self in
    says_order p.first p.second p.valid p.after p.before p.onward p.late (sym c.orders.ensures ∙ c.if-orders.true)

pub returns-then-missing-ne0 : goal.returns-then-missing-ne0
returns-then-missing-ne0 c =
    let p = c.args.self in
    let missing = c.unjoined-missing in
    says_join p.first p.second p.valid p.after p.before p.onward p.late missing.result missing.ensures c.lowest.result
    c.lowest.ensures.member

pub returns : goal.returns
returns c =
    let p = c.args.self in
    let missing = c.unjoined-missing in
    says_nothing p.first p.second p.valid p.after p.before p.onward p.late missing.result missing.ensures
    (sym c.excludes.ensures ∙ c.if-excludes.false)
    (sym c.orders.ensures ∙ c.if-orders.false)
    c.if-missing-ne0.false
