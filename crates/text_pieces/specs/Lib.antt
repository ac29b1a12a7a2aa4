-- A text answered a piece at a time: what a piece says, and that the pieces together are the text's answer.
pub mod Continues
pub mod Pieces
pub mod PieceState
pub mod LoadedAnswers
