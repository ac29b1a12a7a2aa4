-- Who may go on calling without check 0.
pub mod LeftPasses
