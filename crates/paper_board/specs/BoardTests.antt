-- Boolean tests of a board, and what they decide; sets of jobs.
pub mod Live
pub mod Decides
pub mod WithinLimits
pub mod Ranges
pub mod BoundTime
pub mod Sets
