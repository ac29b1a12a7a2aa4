-- `engine_dominance::is_dominated` meets its contract: nothing of the set is left without the word, and the time is not lower. Assumes nothing.
use Rattle.std.proofs.Common.{sym, ◌∙◌}
use Rattle.std.proofs.lemmas.Bool.{not-true}
use Rattle.std.proofs.lemmas.Int.{to_z-of_z}
use Rattle.ground_sets.specs.BitLaws.{subset_yes}
use Rattle.engine_dominance.specs.Dominance.{tested}
use Rattle.engine_dominance.proofs.is_dominated.Goals as goal

pub returns : goal.returns
returns c e =
    let a = c.args in
    let fits = c.ranges in
    let lower = simp (to_z-of_z, fits.time, fits.other) at c.is_lower.ensures in
    tested (subset_yes 64 a.set a.word fits.set.fits fits.word.fits (sym c.difference.ensures ∙ c.if-difference-ne0.false))
    (sym lower ∙ not-true c.is_lower.result e)
