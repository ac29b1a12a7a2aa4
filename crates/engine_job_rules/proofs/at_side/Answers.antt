-- `engine_job_rules::at_side` meets its contract: by its representative, or by the law of R4 and R5 on one side. Assumes nothing.
use Rattle.std.proofs.Common.{rules, SFits, w32}
use Rattle.std.proofs.lemmas.Int.{to_z-of_z}
use Rattle.paper_board.specs.Paper.Values.{side_of}
use Rattle.engine_sums.specs.Sums.{bound_of}
use Rattle.engine_job_rules.specs.JobSearched.{SideSearched, told, side_searched}
use Rattle.engine_job_rules.proofs.at_side.Goals as goal
use Rattle.engine_job_rules.proofs.at_side.Goals.{After-bound_beyond}

-- what the bound found says
searched : (c : After-bound_beyond)
    → let a = c.args in
    let b = a.bounds in
    let side = side_of b.side in
    SideSearched side a.job a.representative b.times.now b.lengths.now a.neighbours.beyond.now a.valid (told side a.job (bound_of side c.bound_beyond.result))
searched c = side_searched (bound_of (side_of c.args.bounds.side) c.bound_beyond.result) c.bound_beyond.ensures

pub returns-in_err-time : goal.returns-in_err-time
returns-in_err-time c = rw c.from_residual.ensures (rw c.in_err-time.was at (searched c.before.before.before))

pub returns : goal.returns
returns c =
    let time_fits : SFits w32 c.in_ok-time.time = search rules in
    simp (to_z-of_z, time_fits) (rw c.in_ok-time.was at (searched c.before.before))
