-- Sets of jobs by their marks, as code.
pub mod Marked
