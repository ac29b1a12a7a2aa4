-- Document 01's calls as definitions: what a reader must believe.
pub mod Entry
pub mod EntryOf
pub mod Checks
pub mod Enter
pub mod Answers
pub mod Looking
pub mod Replies
pub mod Sequence
pub mod Outcome
