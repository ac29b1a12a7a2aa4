-- The energy bound of R4 and R5: what it is, and that the code's way to it is exact.
pub mod Sums
pub mod RaiseExact
pub mod SumLaws
pub mod TotalWithout
pub mod Single
