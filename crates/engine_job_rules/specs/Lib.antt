-- What a search says at one job.
pub mod SideSettled
pub mod JobSearched
