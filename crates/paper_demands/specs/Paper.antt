-- What the demands speak of, beside document 01's own definitions: what a reader must believe.
pub mod Views
