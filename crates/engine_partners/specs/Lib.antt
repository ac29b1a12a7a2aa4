-- The pairs that the search leaves out, and why nothing is missed.
pub mod Partners
pub mod PairSettled
pub mod RowRead
