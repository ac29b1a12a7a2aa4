-- A text answered to its end.
pub mod Buffered
