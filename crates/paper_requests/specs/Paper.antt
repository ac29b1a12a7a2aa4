-- A call of any sort, beside document 01's own definitions: what a reader must believe.
pub mod Requests
