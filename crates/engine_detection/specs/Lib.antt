-- Detected arcs: that setting them is sound.
pub mod Detection
