-- The order of boards by how much they show.
pub mod OrderLaws
pub mod Empty
pub mod LeastUnique
