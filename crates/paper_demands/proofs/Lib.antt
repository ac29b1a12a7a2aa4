-- That the demands hold, and what follows from them.
-- demand 1
pub mod Demand1Holds
-- demand 2
pub mod Demand2Holds
-- demand 3
pub mod Demand3Holds
pub mod DemandsHold
-- what follows from the demands alone, of any sequence and of one day at a dock
pub mod Consequences
pub mod Day
