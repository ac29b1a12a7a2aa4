-- What it means that the two words of each arc agree.
pub mod Agree
