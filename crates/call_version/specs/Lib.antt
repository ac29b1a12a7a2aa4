-- The library's version and the bytes of a board.
pub mod Version
