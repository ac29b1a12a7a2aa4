-- Precedence propagation: windows moved by the jobs on one side of them.
pub mod ModerateTime
pub mod Precedence
