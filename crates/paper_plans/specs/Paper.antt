-- Document 01's planner as definitions: what a reader must believe.
pub mod Lists
pub mod Tries
pub mod Answers
pub mod Planner
pub mod PlanReply
pub mod ReplyWithin
