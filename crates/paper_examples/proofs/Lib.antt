-- What check 0 gives on examples.
pub mod CheckZero
