-- What the planner's loop keeps: the jobs placed, those left to be tried, and their starts.
pub mod Stack
pub mod Waiting
pub mod PlannerState
pub mod Starts
