-- Walks over a set: the definitions, and their laws.
pub mod Takes
pub mod Walk
pub mod Steps
