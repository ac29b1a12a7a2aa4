-- What a search says, as a whole.
pub mod Searched
pub mod InferredOf
