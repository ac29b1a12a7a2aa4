-- What it means that a matrix of bits is transposed.
pub mod Transpose
