-- The entry calls as code.
pub mod ConcludedEnter
pub mod Concluded
