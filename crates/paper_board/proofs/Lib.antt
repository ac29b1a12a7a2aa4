-- The tests of the limits decide the limits.
pub mod LimitsDecided
