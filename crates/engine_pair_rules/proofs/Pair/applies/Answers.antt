-- `engine_pair_rules::Pair::applies` meets its contract: R1 is asked where neither R2 nor R3 applies. Assumes nothing.
use Rattle.std.proofs.Common.{sym, ◌∙◌}
use Rattle.engine_pair_rules.specs.PairSearched.{tested_join}
use Rattle.engine_pair_rules.proofs.Pair.applies.Goals as goal
use Rattle.engine_pair_rules.proofs.Pair.applies.Goals.{then-excludes, else-excludes}

pub returns-else-orders : goal.returns-else-orders
returns-else-orders c =
    let p = c.args.self in
    let missing = c.unjoined in
    elim c.if-excludes.branch [
      | then-excludes w ↦ absurd (cc)
      | else-excludes w ↦
          tested_join p.first p.second p.valid p.after p.before p.onward p.late missing.result missing.ensures
          (sym c.excludes.ensures ∙ w.if-excludes.false)
          (sym w.orders.ensures ∙ sym w.value-is ∙ c.if-orders.false)
    ]
