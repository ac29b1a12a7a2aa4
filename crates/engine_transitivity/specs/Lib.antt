-- Joined arcs: that setting them is sound.
pub mod Transitivity
