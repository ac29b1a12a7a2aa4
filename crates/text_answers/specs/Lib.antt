-- "The text": from bytes to bytes.
pub mod Paper
pub mod TextExamples
-- every board on the way passes check 0, so that no answer is 0; and demand 3 speaks of every text
pub mod CarriedPasses
pub mod NeverRefused0
pub mod TextCalls
