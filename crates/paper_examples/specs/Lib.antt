-- What the definitions give on examples and at the limits, as tables that are computed as a whole.
pub mod Examples
