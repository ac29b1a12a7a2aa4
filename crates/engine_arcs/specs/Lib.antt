-- Arcs put on a board, as inferences.
pub mod Arcs
