-- Dominance between the jobs on one side of others.
pub mod Dominance
