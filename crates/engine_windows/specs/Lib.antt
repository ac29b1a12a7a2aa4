-- A job's window, and how its edges are the bounds of a row.
pub mod Windows
pub mod WindowLaws
