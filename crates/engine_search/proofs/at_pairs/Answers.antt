-- `engine_search::at_pairs` meets its contract: where a rule applies at the pair, something is found there. Assumes nothing.
use Rattle.paper_board.specs.Paper.View.{view}
use Rattle.engine_findings.specs.Searched.{PairObeys}
use Rattle.engine_findings.specs.InferredOf.{inferred_of}
use Rattle.engine_partners.specs.PairSettled.{PairsSettled}
use Rattle.engine_search.specs.PairsWalk.{searched_with}
use Rattle.engine_search.proofs.at_pairs.Goals as goal

pub returns : goal.returns
returns c b h =
    let pair = c.in_ok-find_pair.field-0 in
    let (known, read) = rw c.in_ok-find_pair.was at c.find_pair.ensures in
    searched_with (view b) (PairObeys (view b) pair.first pair.second) (PairsSettled (view b)) (λ obeys. absurd ((known.applies b h).0 obeys)) (inferred_of c.inferred.result)
    (c.inferred.ensures (view b) (read b h))
