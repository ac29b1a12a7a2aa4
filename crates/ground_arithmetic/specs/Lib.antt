-- Times as whole minutes, negative ones too.
pub mod Bools
pub mod Linear
pub mod Sum
pub mod Packing
pub mod Time
