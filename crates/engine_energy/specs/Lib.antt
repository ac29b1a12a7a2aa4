-- What the proofs of the energy bound's passes stand on: the jobs passed, and those still in play.
pub mod Passed
