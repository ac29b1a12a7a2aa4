-- What lies beyond the jobs on a side.
pub mod WordsOn
