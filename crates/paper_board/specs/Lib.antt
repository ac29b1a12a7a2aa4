-- A board and its limits as the paper has them, and what the tests of it decide.
pub mod Paper
pub mod BoardTests
