-- The attempt of an entry.
pub mod Attempts
