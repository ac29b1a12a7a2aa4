-- The answers in numbers: that nothing is lost, and which refusals occur.
pub mod AnswersBack
pub mod ReplyRefusals
