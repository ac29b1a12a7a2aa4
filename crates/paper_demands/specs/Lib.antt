-- What the board promises: the customer's demands.
pub mod Paper
pub mod Demands
-- what demand 2 says of the board after any calls
pub mod Held
pub mod ViewLaws
