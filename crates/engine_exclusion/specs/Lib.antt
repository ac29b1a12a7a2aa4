-- Exclusion: jobs that can't stay.
pub mod Gone
