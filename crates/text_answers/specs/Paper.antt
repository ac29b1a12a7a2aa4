-- "The text" as definitions.
pub mod Text
