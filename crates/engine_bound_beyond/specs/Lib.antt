-- The bound that the valid jobs beyond a job leave to it, as the code finds it.
pub mod BoundBeyond
