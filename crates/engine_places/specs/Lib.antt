-- What a place of a board holds, as the code tests it.
pub mod Place
