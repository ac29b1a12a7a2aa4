-- The closing loop on a board's arrays: that what it does is a run of inferences, and that where it ends is the closure.
pub mod InferredApplicable
pub mod LedClosed
