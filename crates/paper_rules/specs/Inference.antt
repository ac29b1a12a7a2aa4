-- The rules as inferences of facts: the same as the paper's words, and forced.
pub mod Infers
pub mod SumBeyond
pub mod AboutMore
pub mod Forced
