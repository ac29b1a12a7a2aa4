-- "Each line gives one line" as definitions.
pub mod ReplyTexts
