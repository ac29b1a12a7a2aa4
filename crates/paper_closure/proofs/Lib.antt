-- The closure ends, in the least closed board; and so does any other run of inferences.
pub mod Closes
pub mod ClosureLeast
pub mod DerivedClosure
-- check 0 holds exactly of the closed boards
pub mod PassesClosed
