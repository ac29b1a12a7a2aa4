-- "one bracket form a line" as definitions.
pub mod Lines
pub mod Forms
