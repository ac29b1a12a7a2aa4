-- Propagation: turns that each apply one rule where something may have changed.
pub mod Turns
