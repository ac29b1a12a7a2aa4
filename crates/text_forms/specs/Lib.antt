-- The forms of the text.
pub mod Paper
pub mod OneText
pub mod FormExamples
-- what the code goes by: the first line of a text, and the formats one after the other
pub mod LineLaws
pub mod Shapes
pub mod FormRead
