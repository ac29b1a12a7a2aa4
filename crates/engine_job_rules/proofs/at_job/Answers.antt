-- `engine_job_rules::at_job` meets its contract: R6 by the window, then R4 and R5. Assumes nothing.
use Rattle.std.proofs.Common.{sym, ◌∙◌}
use Rattle.std.proofs.lemmas.Int.{to_z-of_z}
use Rattle.paper_board.specs.Paper.View.{view}
use Rattle.engine_sums.specs.SumLaws.{time_fits, length_fits}
use Rattle.engine_findings.specs.InferredOf.{inferred_of, nothing_found, something_found}
use Rattle.engine_job_rules.specs.JobSearched.{read_early, read_late, room_is, says_room, says_late}
use Rattle.engine_job_rules.proofs.at_job.Goals as goal

pub returns-then-not-holds : goal.returns-then-not-holds
returns-then-not-holds c b h live _ _ =
    let w = c.args.windows in
    let i = c.args.i in
    let roomy = simp (to_z-of_z, time_fits (w.early.time i), time_fits (w.late.time i), length_fits w.work i) at c.holds.ensures ∙ room_is h i in
    says_room b _ live (sym roomy ∙ c.if-not-holds.true)

pub returns-then-is_some : goal.returns-then-is_some
returns-then-is_some c b h live early-known _ =
    let raised = rw (c.on.ensures.side, c.on.ensures.times, c.on.ensures.lengths, c.on-2.ensures.beyond) at c.at_side-raised.ensures in
    something_found (view b) _ _ c.at_side-raised.result (sym c.is_some.ensures ∙ c.if-is_some.true) (raised b (read_early h) live early-known)

pub returns : goal.returns
returns c b h live early-known late-known =
    let w = c.args.windows in
    let i = c.args.i in
    let roomy = simp (to_z-of_z, time_fits (w.early.time i), time_fits (w.late.time i), length_fits w.work i) at c.holds.ensures ∙ room_is h i in
    let nothing = nothing_found _ (sym c.is_some.ensures ∙ c.if-is_some.false) in
    let raised = rw (c.on.ensures.side, c.on.ensures.times, c.on.ensures.lengths, c.on-2.ensures.beyond) at c.at_side-raised.ensures in
    let lowered = rw (c.on-3.ensures.side, c.on-3.ensures.times, c.on-3.ensures.lengths, c.on-4.ensures.beyond) at c.at_side.ensures in
    says_late b _ live (sym roomy ∙ c.if-not-holds.false) (rw nothing at (raised b (read_early h) live early-known)) (inferred_of c.at_side.result)
    (lowered b (read_late h) live late-known)
