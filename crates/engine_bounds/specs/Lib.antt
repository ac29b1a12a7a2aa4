-- A bound put on a job's window, as code.
pub mod Tightens
