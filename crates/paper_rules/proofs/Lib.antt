-- The paper's rules are those that the proofs infer by, and the least closed board by these.
pub mod ObeysRules
pub mod BoardOf
pub mod Leastness
pub mod LeastEntered
pub mod LeastClosed
-- a schedule keeps the least closed board
pub mod ScheduleClosed
