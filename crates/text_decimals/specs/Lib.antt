-- Bytes, and numbers written as text.
pub mod Bytes
pub mod Decimal
pub mod Written
-- what the proofs stand on: digits, and the rest of a text
pub mod Rest
pub mod Digits
pub mod Magnitude
pub mod DigitsWritten
