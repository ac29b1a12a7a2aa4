-- What a search says at one pair of jobs.
pub mod PairSearched
