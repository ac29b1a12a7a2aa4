-- The answers as text.
pub mod Paper
pub mod Room
