-- The search for the next inference as the code makes it.
pub mod PairsWalk
pub mod Reads
