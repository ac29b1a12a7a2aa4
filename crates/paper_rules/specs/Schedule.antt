-- A schedule is a board that obeys the rules, so that nothing is lost.
pub mod Scheduled
pub mod ScheduledObeys
pub mod KeepsSchedule
pub mod ScheduledShows
