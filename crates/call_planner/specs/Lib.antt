-- What the proof of the planner's loop stands on: each move, and what it comes to.
pub mod Moves
pub mod Results
