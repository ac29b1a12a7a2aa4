-- The planner's tries, as definitions, and what holds of their lists and endings.
pub mod Paper
-- Lists of job numbers.
pub mod ListLaws
pub mod Unplaced
-- Endings of tries.
pub mod EndingLaws
-- A search that reaches what it looks for.
pub mod SearchReaches
