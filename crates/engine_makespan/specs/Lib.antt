-- Why the end of jobs put one after the other is no less than any of their sums.
pub mod Makespan
