-- What an entry states, as code.
pub mod Stated
pub mod StatedBy
