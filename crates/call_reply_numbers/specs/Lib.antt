-- The answers in numbers: what each case is.
pub mod ReplyNumbers
