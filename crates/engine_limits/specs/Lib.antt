-- The limits of a board as the code tests them.
pub mod LimitsTested
