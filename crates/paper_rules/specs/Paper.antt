-- Document 01 as definitions: what a reader must believe. Each stands beside the sentence that it states.
pub mod Rules
pub mod Energy
pub mod Entries
pub mod Closed
pub mod Schedules
