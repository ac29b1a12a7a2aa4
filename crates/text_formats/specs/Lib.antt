-- Formats: texts with a mark for each number, read by and filled in.
pub mod Format
-- what the proofs stand on: one byte of a format after the other
pub mod Printed
-- theorems to be read: what a byte of a format takes, and a format filled in with numbers held as bits
pub mod ByteTakes
pub mod Numbers
