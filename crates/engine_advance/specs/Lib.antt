-- Propagation on a board's arrays, as a run of inferences.
pub mod Advances
