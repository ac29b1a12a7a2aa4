-- Document 01 as definitions: what a reader must believe. Each stands beside the sentence that it states.
pub mod View
pub mod Parts
pub mod Limits
pub mod Tests
pub mod Facts
pub mod Equality
pub mod Refusals
pub mod Values
