-- Numbers read: what stands at the start of a text, and that a number written is read back.
pub mod Prefix
pub mod Numerals
pub mod NumberRead
-- what the proofs stand on: digits read
pub mod DigitsRead
pub mod Value
pub mod NaturalRead
pub mod NumberFirst
pub mod DecimalLaws
pub mod Negative
