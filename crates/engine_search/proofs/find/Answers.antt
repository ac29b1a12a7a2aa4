-- `engine_search::find` meets its contract: the pairs and then the jobs are all that the rules speak of. Assumes nothing.
use Rattle.std.proofs.Common.{sym, ◌∙◌}
use Rattle.engine_findings.specs.InferredOf.{inferred_of, nothing_found}
use Rattle.engine_search.specs.PairsWalk.{jobs_searched}
use Rattle.engine_search.proofs.find.Goals as goal

pub returns : goal.returns
returns c b h =
    let settled = rw (nothing_found _ (sym c.is_some.ensures ∙ c.if-is_some.false)) at (c.at_pairs-found.ensures b h) in
    jobs_searched b h.arrays.within settled (inferred_of c.at_jobs.result) (c.at_jobs.ensures b h)
