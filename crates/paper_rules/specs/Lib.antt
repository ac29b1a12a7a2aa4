-- The rules, closed boards and schedules as the paper has them, and the mathematics that needs no computation.
pub mod Paper
pub mod Order
pub mod Inference
pub mod Schedule
pub mod Update
