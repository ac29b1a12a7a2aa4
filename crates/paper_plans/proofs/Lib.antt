-- That the planner's tries find a plan exactly where there is a schedule.
pub mod PlanLaws
-- What is found is a schedule.
pub mod TriesSound
-- Where there is a schedule, a plan is found.
pub mod TriesComplete
-- The planner's answer says whether the entries have a schedule.
pub mod PlanEnding
