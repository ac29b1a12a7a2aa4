-- The placements of a plan as text.
pub mod Placements
